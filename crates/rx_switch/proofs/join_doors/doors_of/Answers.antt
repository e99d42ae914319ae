-- The door of the next plan, or what it is refused for.
use Rattle.std.proofs.Common.{◌<◌, ◌∷◌, [], List, arith, length, map, subst}
use Rattle.std.proofs.lemmas.List.{length-append, take_all}
use Rattle.std.proofs.lemmas.Result.{err_from_is_err_and}
use Rattle.rx_switch.specs.declared.join_job.PlanResponse.{PlanResponse as PlanResponseValue}
use Rattle.rx_switch.specs.JoinParts.{response_texts}
use Rattle.rx_switch.specs.JoinRefused.{HaveDoors}
use Rattle.rx_switch.specs.JoinRefused.IsNotJoined.{memory}
use Rattle.rx_switch.proofs.JoinFaults.{doors_next, is_next_plan}
use Rattle.rx_switch.proofs.join_doors.doors_of.Goals as goal

pub returns-in_err-doors-clause-refused : goal.returns-in_err-doors-clause-refused
returns-in_err-doors-clause-refused c g is =
    let p = err_from_is_err_and c.from_residual.result c.from_residual.ensures.1 in
    rw (p.1, p.2) memory

pub returns-in_err-door-clause-refused : goal.returns-in_err-door-clause-refused
returns-in_err-door-clause-refused c g is =
    let p = err_from_is_err_and c.from_residual-in_err-door.result c.from_residual-in_err-door.ensures.1 in
    let at = c.loop-plan.plan-index in
    let inv = c.loop-plan.invariant in
    let low : at < length c.args.plans.now = omega arith in
    let refused = rw c.deref.ensures.value at c.in_err-door.ensures.refused in
    rw (p.1, p.2) (refused g (is_next_plan c.args.plans.now c.loop-plan.doors.items at _ low inv.have g is inv.count))

pub returns-in_err-push-clause-refused : goal.returns-in_err-push-clause-refused
returns-in_err-push-clause-refused c g is =
    let p = err_from_is_err_and c.from_residual-in_err-push.result c.from_residual-in_err-push.ensures.1 in
    rw (p.1, p.2) memory

pub loop-plan-preserved : goal.loop-plan-preserved
loop-plan-preserved c =
    let so_far = c.loop-plan.doors.items in
    let at = c.loop-plan.plan-index in
    let inv = c.loop-plan.invariant in
    let low : at < length c.args.plans.now = omega arith in
    let long = length-append so_far (c.in_ok-door.door ∷ []) in
    let count = inv.count in
    let alone = rw c.deref.ensures.value at c.in_ok-door.ensures.apart in
    record {
      have = rw c.in_ok-push.ensures.items
          (doors_next c.args.plans.now so_far at _ low inv.have c.in_ok-door.door c.in_ok-door.ensures.read alone);
      count = rw c.in_ok-push.ensures.items (omega (arith, long, count));
    }

pub returns-clause-read : goal.returns-clause-read
returns-clause-read c =
    subst (λ (all : List PlanResponseValue). HaveDoors (map response_texts all) c.loop-plan.doors.items)
    (take_all c.loop-plan.plan-index c.args.plans.now (omega arith)) c.loop-plan.invariant.have
