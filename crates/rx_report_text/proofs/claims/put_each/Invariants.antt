use Rattle.std.proofs.Common.{take}
use Rattle.std.specs.List.{flat_map}
use Rattle.rx_print.specs.Page.{Writes}
use Rattle.rx_report_text.specs.Claims.{claim_text}
use Rattle.rx_report_text.proofs.claims.put_each.Given as goal

abbrev pub invariant-loop-line : goal.invariant-loop-line
invariant-loop-line l = Writes l.fn.page l.page (flat_map (claim_text l.whys) (take l.line-index l.lines))
