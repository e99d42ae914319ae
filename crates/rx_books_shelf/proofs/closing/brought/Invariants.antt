-- The rows with what is still to be brought; all else stays.
use Rattle.std.proofs.Common.{◌≡◌, drop}
use Rattle.rx_fields.specs.Order.{key_cmp}
use Rattle.rx_sorted.specs.Overlaid.{overlaid}
use Rattle.rx_ledger.specs.Ledger.{IsLedger}
use Rattle.rx_ledger.specs.Rows.{row_key}
use Rattle.rx_books_family.specs.Shelves.{place_key, row_held}
use Rattle.rx_books_shelf.proofs.closing.brought.Given as goal

abbrev pub invariant-loop-place : goal.invariant-loop-place
invariant-loop-place l = record {
  rows : overlaid key_cmp row_key place_key row_held l.books.books.ledger.rows (drop l.place-index l.places)
      ≡ overlaid key_cmp row_key place_key row_held l.initial.books.books.ledger.rows l.places;
  members : l.books.books.ledger.members ≡ l.initial.books.books.ledger.members;
  period : l.books.books.period ≡ l.initial.books.books.period;
  slots : l.books.slots ≡ l.initial.books.slots;
  in_order : IsLedger l.books.books.ledger;
}
