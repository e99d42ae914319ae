use Rattle.std.proofs.Common.{◌≡◌, take}
use Rattle.rx_report.specs.Adding.{groups_in}
use Rattle.rx_report.specs.Groups.{grouped}
use Rattle.rx_report.proofs.groups.Groups.new.Given as goal

-- the lines so far are grouped
abbrev pub invariant-loop-line : goal.invariant-loop-line
invariant-loop-line l = groups_in l.by_provider.entries ≡ grouped (take l.line-index l.lines)
