use Rattle.std.proofs.Common.{◌≡◌, take}
use Rattle.rx_report_text.specs.RejectCounts.{lines_with}
use Rattle.rx_report_text.proofs.rejects.lines_with.Given as goal

-- those of the sections so far
abbrev pub invariant-loop-section : goal.invariant-loop-section
invariant-loop-section l = l.found.items ≡ lines_with l.code (take l.section-index l.sections)
