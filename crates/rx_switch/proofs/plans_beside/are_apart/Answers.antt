-- One plan more, whose door none of the earlier ones has.
use Rattle.std.proofs.Common.{◌<◌, length, arith}
use Rattle.rx_switch.proofs.Beside.{apart_next}
use Rattle.rx_switch.proofs.plans_beside.are_apart.Goals as goal

pub loop-plan-preserved : goal.loop-plan-preserved
loop-plan-preserved c =
    let at = c.loop-plan.plan-index in
    let low : at < length c.args.plans.now = omega arith in
    let alone = rw (c.door.ensures, c.loop-plan.invariant.count) at c.in-None.ensures.none in
    let count = c.loop-plan.invariant.count in
    record {
      count = omega (arith, count);
      apart = apart_next c.args.plans.now at c.plan-item.result low c.plan-item.is c.loop-plan.invariant.apart alone;
    }
