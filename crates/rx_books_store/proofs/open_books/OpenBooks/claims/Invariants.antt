-- How many claims were passed, and those that are still to come.
use Rattle.std.proofs.Common.{◌≡◌, ◌+◌, ◌<◌, ◌^◌, length}
use Rattle.rx_books_store.proofs.open_books.OpenBooks.claims.Given as goal

abbrev pub invariant-claims : goal.invariant-claims
invariant-claims l = record {
  all : l.count + length l.standing.rows ≡ length l.initial.standing.rows;
  few : l.count + length l.standing.rows < 2 ^ 64;
}

abbrev pub decreases-claims : goal.decreases-claims
decreases-claims l = length l.standing.rows
