-- The lines of the rows so far, and the rows that are still to come.
use Rattle.std.proofs.Common.{◌≡◌, ◌++◌, length}
use Rattle.rx_books_store.specs.BooksText.{claims_text}
use Rattle.rx_books_store.proofs.open_books.OpenBooks.put_claims.Given as goal

abbrev pub invariant-rows : goal.invariant-rows
invariant-rows l =
    l.text.items ++ claims_text l.standing.rows ≡ l.initial.text.items ++ claims_text l.initial.standing.rows

abbrev pub decreases-rows : goal.decreases-rows
decreases-rows l = length l.standing.rows
