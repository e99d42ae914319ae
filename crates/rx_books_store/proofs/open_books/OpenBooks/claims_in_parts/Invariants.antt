-- The rows so far, and those that are still to come.
use Rattle.std.proofs.Common.{◌≡◌, ◌++◌, length}
use Rattle.rx_books_store.specs.BooksText.{claims_text}
use Rattle.rx_books_store.specs.Opening.{rows_text}
use Rattle.rx_books_store.proofs.open_books.OpenBooks.claims_in_parts.Given as goal

abbrev pub invariant-rows : goal.invariant-rows
invariant-rows g l = rows_text l.rows.items ++ claims_text l.standing.rows ≡ claims_text l.initial.standing.rows

abbrev pub decreases-rows : goal.decreases-rows
decreases-rows g l = length l.standing.rows
