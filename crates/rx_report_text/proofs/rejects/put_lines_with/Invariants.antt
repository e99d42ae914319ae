use Rattle.std.proofs.Common.{◌≡◌, ◌++◌, take}
use Rattle.std.specs.List.{filter}
use Rattle.rx_report_text.specs.RejectCounts.{has_code}
use Rattle.rx_report_text.proofs.rejects.put_lines_with.Given as goal

-- those of the lines so far
abbrev pub invariant-loop-line : goal.invariant-loop-line
invariant-loop-line l = l.found.items ≡ l.fn.found.items ++ filter (has_code l.code) (take l.line-index l.lines)
