use Rattle.std.proofs.Common.{◌≡◌, take}
use Rattle.rx_report_text.specs.Columns.{widened}
use Rattle.rx_report_text.proofs.wide.widened.Given as goal

abbrev pub invariant-loop-line : goal.invariant-loop-line
invariant-loop-line l = l.width ≡ widened l.shown l.heading (take l.line-index l.lines)
