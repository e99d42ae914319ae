-- The next plan is accepted with those before it, or is the first that is refused.
use Rattle.std.proofs.Common.{◌≡◌, ◌+◌, ◌<◌, ◌++◌, List, [], ◌∷◌, length, map, subst, arith}
use Rattle.std.proofs.lemmas.List.{length-append, length-map, take_all}
use Rattle.std.proofs.lemmas.Result.{err_from_is_err_and}
use Rattle.rx_switch.specs.RouteParts.{opened, plan_texts}
use Rattle.rx_switch.specs.RouteRefused.IsNotRouted.{memory}
use Rattle.rx_switch.specs.Routed.{AreAccepted, PlanTexts}
use Rattle.rx_switch.proofs.Opening.{accepted_next, is_next, numbered_next}
use Rattle.rx_switch.proofs.open_plans.open_plans.Goals as goal

pub returns-in_err-next-clause-refused : goal.returns-in_err-next-clause-refused
returns-in_err-next-clause-refused g c switch s stamped given =
    let p = err_from_is_err_and c.from_residual.result c.from_residual.ensures.1 in
    let at = c.loop-plan.plan-index in
    let inv = c.loop-plan.invariant in
    let low : at < length c.args.plans.now = omega arith in
    let refused = rw c.deref.ensures.value at c.in_err-next.ensures.refused in
    rw (p.1, p.2) (refused switch (is_next c.args.plans.now c.loop-plan.so_far.items at _ c.plan-item.is low inv.accepted switch s
    stamped given inv.count))

pub returns-in_err-push-clause-refused : goal.returns-in_err-push-clause-refused
returns-in_err-push-clause-refused g c switch s stamped given =
    let p = err_from_is_err_and c.from_residual-in_err-push.result c.from_residual-in_err-push.ensures.1 in
    rw (p.1, p.2) (memory s stamped)

pub loop-plan-preserved : goal.loop-plan-preserved
loop-plan-preserved g c =
    let at = c.loop-plan.plan-index in
    let so_far = c.loop-plan.so_far.items in
    let next = c.in_ok-next.next in
    let inv = c.loop-plan.invariant in
    let alone = rw c.deref.ensures.value at c.in_ok-next.ensures.apart in
    let number = rw c.deref.ensures.value at c.in_ok-next.ensures.number in
    let low : at < length c.args.plans.now = omega arith in
    let pushed : c.push.new.self.items ≡ so_far ++ next ∷ [] = c.in_ok-push.ensures.items in
    let long = length-append so_far (next ∷ []) in
    let count = inv.count in
    record {
      accepted = rw pushed (accepted_next c.args.plans.now so_far at _ c.plan-item.is low inv.accepted
          next c.in_ok-next.ensures.opened alone);
      numbered = rw pushed (numbered_next so_far
          next inv.numbered number);
      count = rw pushed (omega (arith, long, count));
    }

pub returns-clause-opened : goal.returns-clause-opened
returns-clause-opened g c =
    let texts : List PlanTexts = map plan_texts c.args.plans.now in
    let long = length-map c.args.plans.now plan_texts in
    subst (λ (ts : List PlanTexts). AreAccepted ts (map opened c.loop-plan.so_far.items))
    (take_all c.loop-plan.plan-index texts (omega (arith, long))) c.loop-plan.invariant.accepted

pub returns-clause-numbered : goal.returns-clause-numbered
returns-clause-numbered g c = c.loop-plan.invariant.numbered
