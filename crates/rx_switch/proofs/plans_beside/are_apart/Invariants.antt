-- No two of the plans so far have one door.
use Rattle.std.proofs.Common.{◌≡◌, map, take, true}
use Rattle.rx_switch.specs.RouteParts.{opened}
use Rattle.rx_switch.specs.Routed.{are_apart, doors_of}
use Rattle.rx_switch.proofs.plans_beside.are_apart.Given as goal

abbrev pub invariant-loop-plan : goal.invariant-loop-plan
invariant-loop-plan l = record {
  count : l.at ≡ l.plan-index;
  apart : are_apart (doors_of (map opened (take l.plan-index l.plans))) ≡ true;
}
