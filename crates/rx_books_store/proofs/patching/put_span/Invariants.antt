-- The text so far, the lines of the run that is to be lent, and those of the rows that are still to come, are those of what
-- stands from the span's beginning on.
use Rattle.std.proofs.Common.{◌≡◌, ◌-◌, ◌≤◌, ◌++◌, drop, take}
use Rattle.std.specs.List.{All}
use Rattle.rx_fields.specs.Order.{key_cmp}
use Rattle.rx_sorted.specs.Near.{AreBefore}
use Rattle.rx_ledger.specs.Rows.{row_key}
use Rattle.rx_books_store.specs.BooksText.{claims_text}
use Rattle.rx_books_store.specs.Kept.{kept_text}
use Rattle.rx_books_store.specs.Patching.{begin_of, rest_text}
use Rattle.rx_books_store.specs.Store.{standing_rows}
use Rattle.rx_books_store.proofs.patching.put_span.Given as goal

abbrev pub invariant-loop-at : goal.invariant-loop-at
invariant-loop-at l = record {
  order : l.first ≤ l.row;
  row_within : l.row ≤ l.span.to.row;
  slot_within : l.at ≤ l.span.to.slot;
  place_is : l.place ≡ begin_of l.kept.above l.rows l.first;
  lender : l.text.lender ≡ kept_text l.kept;
  before : All (λ s. AreBefore key_cmp row_key l.rows s.key l.row) (drop l.at l.slots);
  whole : (l.text.text ++ claims_text (take (l.row - l.first) (drop l.first l.rows)))
      ++ claims_text (standing_rows (drop l.row l.rows) (drop l.at l.slots))
      ≡ l.initial.text.text ++ rest_text l.rows l.slots l.span.from;
}
