use Rattle.std.proofs.Common.{◌≡◌, ◌+◌, ◌-◌, ◌≤◌, length, drop}
use Rattle.rx_diagnostics.specs.Likeness.{in_front}
use Rattle.rx_diagnostics.proofs.likeness.in_front.Given as goal

-- what was passed and what is left to pass is the whole front
abbrev pub invariant-loop-count : goal.invariant-loop-count
invariant-loop-count l = record {
  value : l.count + in_front (drop l.count l.one) (drop l.count l.other) ≡ in_front l.one l.other;
  one : l.count ≤ length l.one;
  other : l.count ≤ length l.other;
}

abbrev pub decreases-loop-count : goal.decreases-loop-count
decreases-loop-count l = length l.one - l.count
