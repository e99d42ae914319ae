-- The books that still have no place, and after them the places so far, the last first; each is of the open books, and those
-- that have one are in order.
use Rattle.std.proofs.Common.{◌≡◌, ◌++◌, List, length, map, reverse}
use Rattle.std.specs.List.{All}
use Rattle.rx_books_family.specs.FamilyBook.{FamilyBook, IsOwn}
use Rattle.rx_books_shelf.specs.Opened.{opened_book, filled_place}
use Rattle.rx_books_shelf.proofs.placing.family_places.Given as goal

abbrev pub invariant-books : goal.invariant-books
invariant-books l = record {
  placed : map filled_place l.books.items ++ reverse l.places.items ≡ map filled_place l.initial.books.items;
  own : All (λ (b : FamilyBook). b ≡ opened_book l.open.books b.family) l.books.items;
  read : (rest : List FamilyBook) × (l.initial.books.items ≡ l.books.items ++ rest) × All IsOwn rest;
}

abbrev pub decreases-books : goal.decreases-books
decreases-books l = length l.books.items
