use Rattle.std.proofs.Common.{take}
use Rattle.std.specs.List.{flat_map}
use Rattle.rx_print.specs.Page.{Writes}
use Rattle.rx_report_text.specs.Json.{comma_section}
use Rattle.rx_report_text.proofs.json.put_others.Given as goal

abbrev pub invariant-loop-section : goal.invariant-loop-section
invariant-loop-section l = Writes l.fn.page l.page (flat_map comma_section (take l.section-index l.sections))
