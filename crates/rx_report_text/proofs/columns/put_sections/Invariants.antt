use Rattle.std.proofs.Common.{take}
use Rattle.std.specs.List.{flat_map}
use Rattle.rx_print.specs.Page.{Writes}
use Rattle.rx_report_text.specs.Columns.{section_text}
use Rattle.rx_report_text.proofs.columns.put_sections.Given as goal

abbrev pub invariant-loop-section : goal.invariant-loop-section
invariant-loop-section l = Writes l.fn.page l.page (flat_map (section_text l.columns) (take l.section-index l.sections))
