use Rattle.std.proofs.Common.{◌≡◌, ◌+◌, ◌-◌, ◌≤◌, length, drop}
use Rattle.rx_report_text.specs.Reasons.{until}
use Rattle.rx_report_text.proofs.reasons.until.Given as goal

-- what was passed and what is left to pass are all of them
abbrev pub invariant-loop-count : goal.invariant-loop-count
invariant-loop-count l = record {
  value : l.count + until l.mark (drop l.count l.text) ≡ until l.mark l.text;
  within : l.count ≤ length l.text;
}

abbrev pub decreases-loop-count : goal.decreases-loop-count
decreases-loop-count l = length l.text - l.count
