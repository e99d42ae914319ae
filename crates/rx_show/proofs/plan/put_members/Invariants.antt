use Rattle.std.proofs.Common.{take}
use Rattle.std.specs.List.{flat_map}
use Rattle.rx_print.specs.Page.{Writes}
use Rattle.rx_show.specs.PlanLines.{after_blank}
use Rattle.rx_show.proofs.plan.put_members.Given as goal

abbrev pub invariant-loop-place : goal.invariant-loop-place
invariant-loop-place l = Writes l.fn.page l.page (flat_map after_blank (take l.place-index l.chain))
