-- The claims so far, and those that are still to come.
use Rattle.std.proofs.Common.{length}
use Rattle.rx_books_upkeep.proofs.Cuts.{IsCutSoFar}
use Rattle.rx_books_upkeep.proofs.cut_claims.cut_part.Given as goal

abbrev pub invariant-claims : goal.invariant-claims
invariant-claims l = IsCutSoFar l.percent l.day l.part l.claims l.cut

abbrev pub decreases-claims : goal.decreases-claims
decreases-claims l = length l.claims
