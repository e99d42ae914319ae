use Rattle.std.proofs.Common.{◌≡◌, ◌+◌, ◌-◌, ◌≤◌, length, drop}
use Rattle.std.specs.List.{prefix_len}
use Rattle.rx_explain_text.specs.Counted.{counts_as_much}
use Rattle.rx_explain_text.proofs.counted.place_in.Given as goal

-- those that were passed and those that are left to pass are all that count as much
abbrev pub invariant-loop-place : goal.invariant-loop-place
invariant-loop-place l = record {
  value : l.place + prefix_len (counts_as_much l.cents) (drop l.place l.listed) ≡ prefix_len (counts_as_much l.cents) l.listed;
  within : l.place ≤ length l.listed;
}

abbrev pub decreases-loop-place : goal.decreases-loop-place
decreases-loop-place l = length l.listed - l.place
