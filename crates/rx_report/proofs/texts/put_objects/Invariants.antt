use Rattle.std.proofs.Common.{take}
use Rattle.std.specs.List.{flat_map}
use Rattle.rx_print.specs.Page.{Writes}
use Rattle.rx_report.specs.Texts.{comma_object}
use Rattle.rx_report.proofs.texts.put_objects.Given as goal

abbrev pub invariant-loop-line : goal.invariant-loop-line
invariant-loop-line l = Writes l.fn.page l.page (flat_map comma_object (take l.line-index l.lines))
