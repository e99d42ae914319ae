use Rattle.std.proofs.Common.{◌≡◌, map, take}
use Rattle.rx_books_family.specs.FamilyBook.{empty_book}
use Rattle.rx_books_shelf.proofs.gathering.put_books.Given as goal

abbrev pub invariant-loop-family : goal.invariant-loop-family
invariant-loop-family l = l.books.items ≡ map (empty_book l.period) (take l.family-index l.families)
