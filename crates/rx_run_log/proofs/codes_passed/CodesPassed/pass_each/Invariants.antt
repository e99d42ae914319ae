use Rattle.std.proofs.Common.{◌≡◌, ◌-◌, ◌≤◌, ◌++◌, length, drop}
use Rattle.rx_run_log.specs.CodesPassed.{codes_in, last_five}
use Rattle.rx_run_log.proofs.codes_passed.CodesPassed.pass_each.Given as goal

-- what passed and what is left is the whole piece
abbrev pub invariant-loop-at : goal.invariant-loop-at
invariant-loop-at l = record {
  five : last_five l.self.five (drop l.at l.piece) ≡ last_five l.fn.self.five l.piece;
  codes : l.self.codes.items ++ codes_in l.self.five (drop l.at l.piece)
      ≡ l.fn.self.codes.items ++ codes_in l.fn.self.five l.piece;
  within : l.at ≤ length l.piece;
}

abbrev pub decreases-loop-at : goal.decreases-loop-at
decreases-loop-at l = length l.piece - l.at
