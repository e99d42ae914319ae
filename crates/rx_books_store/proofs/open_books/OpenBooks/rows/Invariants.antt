-- The rows so far, and those that are still to come.
use Rattle.std.proofs.Common.{◌≡◌, ◌++◌, length}
use Rattle.rx_books_store.proofs.open_books.OpenBooks.rows.Given as goal

abbrev pub invariant-rows : goal.invariant-rows
invariant-rows l = l.rows.items ++ l.standing.rows ≡ l.initial.standing.rows

abbrev pub decreases-rows : goal.decreases-rows
decreases-rows l = length l.standing.rows
