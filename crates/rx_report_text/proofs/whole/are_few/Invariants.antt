-- The lines so far, and those that may still come.
use Rattle.std.proofs.Common.{◌≡◌, ◌+◌, length, sum_by, take}
use Rattle.rx_report_text.specs.declared.whole.TheConstants.{MOST_LINES}
use Rattle.rx_report_text.proofs.whole.are_few.Given as goal

abbrev pub invariant-loop-section : goal.invariant-loop-section
invariant-loop-section l = sum_by (λ s. length s.lines.now) (take l.section-index l.sections) + l.left ≡ MOST_LINES
