-- The families of the members so far.
use Rattle.std.proofs.Common.{◌≡◌, take}
use Rattle.rx_books_store.specs.BooksText.{families_of}
use Rattle.rx_books_upkeep.specs.Figured.{ids_of}
use Rattle.rx_books_upkeep.proofs.families.families_of.Given as goal

abbrev pub invariant-loop-member : goal.invariant-loop-member
invariant-loop-member l = ids_of l.families ≡ families_of (take l.member-index l.members)
