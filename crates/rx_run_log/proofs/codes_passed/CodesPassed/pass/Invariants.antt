-- What passed and what is left is the whole piece.
use Rattle.std.proofs.Common.{◌≡◌, ◌++◌, length}
use Rattle.rx_run_log.specs.CodesPassed.{codes_in, last_five}
use Rattle.rx_run_log.proofs.codes_passed.CodesPassed.pass.Given as goal

abbrev pub invariant-loop-at : goal.invariant-loop-at
invariant-loop-at l = record {
  five : last_five l.self.five l.rest ≡ last_five l.fn.self.five l.piece;
  codes : l.self.codes.items ++ codes_in l.self.five l.rest ≡ l.fn.self.codes.items ++ codes_in l.fn.self.five l.piece;
}

abbrev pub decreases-loop-at : goal.decreases-loop-at
decreases-loop-at l = length l.rest
