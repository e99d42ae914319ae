use Rattle.std.proofs.Common.{◌≡◌, take}
use Rattle.rx_report_text.specs.Columns.{width_of}
use Rattle.rx_report_text.proofs.wide.width_of.Given as goal

abbrev pub invariant-loop-section : goal.invariant-loop-section
invariant-loop-section l = l.width ≡ width_of (take l.section-index l.sections) l.shown
