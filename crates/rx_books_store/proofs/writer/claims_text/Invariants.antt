-- The lines of the rows so far.
use Rattle.std.proofs.Common.{◌≡◌, take}
use Rattle.rx_books_store.specs.Opening.{rows_text}
use Rattle.rx_books_store.proofs.writer.claims_text.Given as goal

abbrev pub invariant-loop-row : goal.invariant-loop-row
invariant-loop-row l = l.text.items ≡ rows_text (take l.row-index l.rows)
