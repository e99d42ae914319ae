use Rattle.std.proofs.Common.{◌≡◌, take}
use Rattle.std.specs.List.{filter}
use Rattle.rx_report.specs.Accounts.{is_in}
use Rattle.rx_report.proofs.portion.kept_lines.Given as goal

-- those of the lines so far are kept
abbrev pub invariant-loop-line : goal.invariant-loop-line
invariant-loop-line l = l.kept.items ≡ filter (is_in l.portion) (take l.line-index l.lines)
