use Rattle.std.proofs.Common.{◌≡◌, ◌+◌, ◌-◌, ◌≤◌, length, drop, reverse}
use Rattle.rx_diagnostics.specs.Likeness.{at_end, in_front}
use Rattle.rx_diagnostics.proofs.likeness.at_end.Given as goal

-- what was passed and what is left to pass is the whole end
abbrev pub invariant-loop-count : goal.invariant-loop-count
invariant-loop-count l = record {
  value : l.count + in_front (drop l.count (reverse l.one)) (drop l.count (reverse l.other)) ≡ at_end l.one l.other;
  one : l.count ≤ length l.one;
  other : l.count ≤ length l.other;
}

abbrev pub decreases-loop-count : goal.decreases-loop-count
decreases-loop-count l = length l.one - l.count
