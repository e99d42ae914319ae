-- The plans stand for their texts, whatever their numbers were when they were read.
use Rattle.std.proofs.Common.{List, map, subst, sym}
use Rattle.std.specs.List.{AllZip}
use Rattle.rx_switch.specs.RouteParts.{opened, plan_texts}
use Rattle.rx_switch.specs.Routed.{OnePlan, PlanStandsFor, are_apart}
use Rattle.rx_switch.proofs.Beside.{each_made}
use Rattle.rx_switch.proofs.plans_beside.open_beside.Goals as goal

pub returns-then-are_apart-clause-opened : goal.returns-then-are_apart-clause-opened
returns-then-are_apart-clause-opened g c =
    let plans = c.args.plans.now in
    let read = c.in_ok-read.read.items in
    let each = each_made PlanStandsFor plan_texts opened plans read c.in_ok-read.ensures in
    let apart = rw c.deref.ensures.value at (c.are_apart.ensures c.if-are_apart.true) in
    record {
      each = subst (λ (ps : List OnePlan). AllZip PlanStandsFor (map plan_texts plans) ps) (sym c.in-Ok.ensures.same) each;
      apart = apart;
    }
