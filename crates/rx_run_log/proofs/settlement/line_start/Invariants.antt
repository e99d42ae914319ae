use Rattle.std.proofs.Common.{◌≡◌, ◌+◌, ◌≤◌, length, take}
use Rattle.std.specs.List.{suffix_len}
use Rattle.rx_run_log.specs.Settlement.{is_in_line}
use Rattle.rx_run_log.proofs.settlement.line_start.Given as goal

-- what was passed from the end, and what is left to pass, is the whole line
abbrev pub invariant-loop-start : goal.invariant-loop-start
invariant-loop-start l = record {
  value : l.start + suffix_len is_in_line l.text ≡ length l.text + suffix_len is_in_line (take l.start l.text);
  within : l.start ≤ length l.text;
}

abbrev pub decreases-loop-start : goal.decreases-loop-start
decreases-loop-start l = l.start
