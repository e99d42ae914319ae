-- Those of the lines so far are kept that are about own records.
use Rattle.std.proofs.Common.{◌≡◌, take}
use Rattle.std.specs.List.{filter}
use Rattle.rx_commands.specs.Own.{is_own_line}
use Rattle.rx_commands.proofs.own_records.own_lines.Given as goal

abbrev pub invariant-loop-line : goal.invariant-loop-line
invariant-loop-line l = l.own.items ≡ filter (is_own_line l.batch) (take l.line-index l.lines)
