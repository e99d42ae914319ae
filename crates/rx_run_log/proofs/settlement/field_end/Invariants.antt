use Rattle.std.proofs.Common.{◌≡◌, ◌+◌, ◌-◌, ◌≤◌, length, drop}
use Rattle.std.specs.List.{prefix_len}
use Rattle.rx_run_log.specs.Settlement.{is_in_field}
use Rattle.rx_run_log.proofs.settlement.field_end.Given as goal

-- what was passed and what is left to pass is the whole field
abbrev pub invariant-loop-end : goal.invariant-loop-end
invariant-loop-end l = record {
  value : l.end + prefix_len is_in_field (drop l.end l.fields) ≡ prefix_len is_in_field l.fields;
  within : l.end ≤ length l.fields;
}

abbrev pub decreases-loop-end : goal.decreases-loop-end
decreases-loop-end l = length l.fields - l.end
