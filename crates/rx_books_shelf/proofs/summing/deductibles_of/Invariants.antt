-- The deductibles of the members so far.
use Rattle.std.proofs.Common.{◌≡◌, map, take}
use Rattle.rx_books_shelf.specs.Gathered.{own_deductible}
use Rattle.rx_books_shelf.proofs.summing.deductibles_of.Given as goal

abbrev pub invariant-loop-member : goal.invariant-loop-member
invariant-loop-member l = l.deductibles.items ≡ map (own_deductible l.books.books) (take l.member-index l.members)
