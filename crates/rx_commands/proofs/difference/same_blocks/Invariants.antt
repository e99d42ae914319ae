use Rattle.std.proofs.Common.{◌≡◌, ◌-◌, ◌≤◌, length, take}
use Rattle.rx_commands.proofs.difference.same_blocks.Given as goal

abbrev pub invariant-loop-at : goal.invariant-loop-at
invariant-loop-at l = record {
  ours : l.at ≤ length l.ours;
  theirs : l.at ≤ length l.theirs;
  same : take l.at l.ours ≡ take l.at l.theirs;
}

abbrev pub decreases-loop-at : goal.decreases-loop-at
decreases-loop-at l = length l.ours - l.at
