-- The members that are still to be put, each past those of its family's book.
use Rattle.std.proofs.Common.{◌≡◌, drop}
use Rattle.std.specs.List.{All}
use Rattle.rx_fields.specs.Order.{id_cmp}
use Rattle.rx_sorted.specs.Ascending.{IsAscending}
use Rattle.rx_books_family.specs.FamilyBook.{family_of}
use Rattle.rx_books_shelf.proofs.PutBooks.{Past, members_put}
use Rattle.rx_books_shelf.proofs.gathering.put_members.Given as goal

abbrev pub invariant-loop-place : goal.invariant-loop-place
invariant-loop-place l = record {
  put : members_put (drop l.place l.members) l.books.items ≡ members_put l.members l.initial.books.items;
  rise : IsAscending id_cmp family_of l.books.items;
  past : All (Past (drop l.place l.members)) l.books.items;
}
