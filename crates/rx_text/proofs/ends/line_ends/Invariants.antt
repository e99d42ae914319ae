use Rattle.std.proofs.Common.{◌≡◌, ◌+◌, ◌-◌, ◌≤◌, length, drop}
use Rattle.std.specs.List.{prefix_len}
use Rattle.rx_text.specs.Bytes.{is_line_end}
use Rattle.rx_text.proofs.ends.line_ends.Given as goal

-- what was passed and what is left to pass are all of them
abbrev pub invariant-loop-count : goal.invariant-loop-count
invariant-loop-count l = record {
  value : l.count + prefix_len is_line_end (drop l.count l.bytes) ≡ prefix_len is_line_end l.bytes;
  within : l.count ≤ length l.bytes;
}

abbrev pub decreases-loop-count : goal.decreases-loop-count
decreases-loop-count l = length l.bytes - l.count
