use Rattle.std.proofs.Common.{take}
use Rattle.std.specs.List.{flat_map}
use Rattle.rx_print.specs.Page.{Writes}
use Rattle.rx_report_text.specs.Rejects.{claim_link}
use Rattle.rx_report_text.proofs.rejects.put_each_link.Given as goal

abbrev pub invariant-loop-line : goal.invariant-loop-line
invariant-loop-line l = Writes l.fn.page l.page (flat_map claim_link (take l.line-index l.lines))
