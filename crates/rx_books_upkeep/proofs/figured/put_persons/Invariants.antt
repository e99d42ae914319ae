-- The lines of the members so far.
use Rattle.std.proofs.Common.{◌≡◌, ◌++◌, take}
use Rattle.rx_books_upkeep.specs.Figured.{person_lines}
use Rattle.rx_books_upkeep.proofs.figured.put_persons.Given as goal

abbrev pub invariant-loop-member : goal.invariant-loop-member
invariant-loop-member l =
    l.text.items ≡ l.initial.text.items ++ person_lines l.books.books (take l.member-index l.members)
