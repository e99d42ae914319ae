-- The rows so far are the same: all are where those that are still to come are.
use Rattle.std.proofs.Common.{◌≡◌, ◌↔◌, length}
use Rattle.rx_books_store.proofs.open_books.OpenBooks.has_rows_of.Given as goal

abbrev pub invariant-rows : goal.invariant-rows
invariant-rows l = (l.ours.rows ≡ l.theirs.rows) ↔ (l.initial.ours.rows ≡ l.initial.theirs.rows)

abbrev pub decreases-rows : goal.decreases-rows
decreases-rows l = length l.ours.rows
