use Rattle.std.proofs.Common.{◌≡◌, ◌≤◌, ◌*◌, map, take}
use Rattle.rx_report.specs.Lines.{answer_of}
use Rattle.rx_settle.specs.Answers.{tally, weight}
use Rattle.rx_report.proofs.tallying.tally_lines.Given as goal

-- the lines so far are counted
abbrev pub invariant-loop-line : goal.invariant-loop-line
invariant-loop-line l = record {
  value : l.tally ≡ tally (map answer_of (take l.line-index l.lines));
  within : weight l.tally ≤ 100_000_000 * l.line-index;
}
