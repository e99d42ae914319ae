-- The plans so far are accepted, and have the numbers of their places.
use Rattle.std.proofs.Common.{◌≡◌, length, map, take}
use Rattle.rx_switch.specs.RouteParts.{AreNumbered, opened, plan_texts}
use Rattle.rx_switch.specs.Routed.{AreAccepted}
use Rattle.rx_switch.proofs.open_plans.open_plans.Given as goal

abbrev pub invariant-loop-plan : goal.invariant-loop-plan
invariant-loop-plan g l = record {
  accepted : AreAccepted (take l.plan-index (map plan_texts l.plans)) (map opened l.so_far.items);
  numbered : AreNumbered l.so_far.items;
  count : length l.so_far.items ≡ l.plan-index;
}
