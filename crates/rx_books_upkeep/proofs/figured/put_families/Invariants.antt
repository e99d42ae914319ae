-- The lines of the families so far.
use Rattle.std.proofs.Common.{◌≡◌, ◌++◌, take}
use Rattle.rx_books_upkeep.specs.Figured.{family_lines}
use Rattle.rx_books_upkeep.proofs.figured.put_families.Given as goal

abbrev pub invariant-loop-family : goal.invariant-loop-family
invariant-loop-family l =
    l.text.items ≡ l.initial.text.items ++ family_lines l.books.books (take l.family-index l.families)
