-- The claims so far, and those that are still to come.
use Rattle.std.proofs.Common.{length}
use Rattle.rx_books_upkeep.proofs.Cuts.{IsCutSoFar}
use Rattle.rx_books_upkeep.proofs.cut_claims.cut_standing.Given as goal

abbrev pub invariant-rows : goal.invariant-rows
invariant-rows l = IsCutSoFar l.percent l.day l.books.books.ledger.rows l.standing.rows l.cut

abbrev pub decreases-rows : goal.decreases-rows
decreases-rows l = length l.standing.rows
