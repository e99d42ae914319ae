-- The doors of the plans so far.
use Rattle.std.proofs.Common.{◌≡◌, map, take}
use Rattle.rx_switch.specs.RouteParts.{opened}
use Rattle.rx_switch.specs.Routed.{doors_of}
use Rattle.rx_switch.proofs.open_plans.doors_of.Given as goal

abbrev pub invariant-loop-plan : goal.invariant-loop-plan
invariant-loop-plan l = l.doors.items ≡ doors_of (map opened (take l.plan-index l.plans))
