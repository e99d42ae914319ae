use Rattle.std.proofs.Common.{◌≡◌, ◌+◌, ◌-◌, ◌≤◌, length, drop}
use Rattle.std.specs.List.{prefix_len}
use Rattle.rx_commands.specs.Difference.{is_inside}
use Rattle.rx_commands.proofs.pieces.inside.Given as goal

-- what was passed and what is left to pass is the whole piece
abbrev pub invariant-loop-inside : goal.invariant-loop-inside
invariant-loop-inside l = record {
  value : l.inside + prefix_len (is_inside l.end) (drop l.inside l.bytes) ≡ prefix_len (is_inside l.end) l.bytes;
  within : l.inside ≤ length l.bytes;
}

abbrev pub decreases-loop-inside : goal.decreases-loop-inside
decreases-loop-inside l = length l.bytes - l.inside
