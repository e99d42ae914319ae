-- The rows that are still to be put, each past those of its family's book.
use Rattle.std.proofs.Common.{◌≡◌, ◌≤◌, length, true}
use Rattle.std.specs.List.{All}
use Rattle.rx_fields.specs.declared.limits.TheConstants.{MOST_CENTS}
use Rattle.rx_fields.specs.Order.{id_cmp, key_cmp}
use Rattle.rx_sorted.specs.Ascending.{IsAscending}
use Rattle.rx_ledger.specs.declared.row.Row.{Row}
use Rattle.rx_ledger.specs.Ledger.{is_listed}
use Rattle.rx_ledger.specs.Rows.{member_of_row, row_key}
use Rattle.rx_ledger.specs.Sums.{paid_by_patient}
use Rattle.rx_books_family.specs.FamilyBook.{family_of}
use Rattle.rx_books_shelf.proofs.PutBooks.{HasMembers, PastRows, rows_put}
use Rattle.rx_books_shelf.proofs.gathering.put_rows.Given as goal

abbrev pub invariant-rows : goal.invariant-rows
invariant-rows l = record {
  put : rows_put l.standing.rows l.books.items ≡ rows_put l.initial.standing.rows l.initial.books.items;
  rise : IsAscending id_cmp family_of l.books.items;
  past : All (PastRows l.standing.rows) l.books.items;
  members : All (HasMembers l.open.books.ledger) l.books.items;
  listed : All (λ (r : Row). is_listed l.open.books.ledger (member_of_row r) ≡ true) l.standing.rows;
  small : All (λ (r : Row). paid_by_patient r ≤ MOST_CENTS) l.standing.rows;
  in_order : IsAscending key_cmp row_key l.standing.rows;
}

abbrev pub decreases-rows : goal.decreases-rows
decreases-rows l = length l.standing.rows
