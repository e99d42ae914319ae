-- The rows that are still to come, among all.
use Rattle.std.proofs.Common.{◌≡◌, length}
use Rattle.std.specs.List.{list_all}
use Rattle.rx_books_store.specs.WholeBooks.{has_unkeyed}
use Rattle.rx_books_store.proofs.comparison.has_unkeyed.Given as goal

abbrev pub invariant-rows : goal.invariant-rows
invariant-rows l =
    list_all (has_unkeyed l.books.ledger l.places) l.standing.rows
    ≡ list_all (has_unkeyed l.books.ledger l.places) l.opened.books.ledger.rows

abbrev pub decreases-rows : goal.decreases-rows
decreases-rows l = length l.standing.rows
