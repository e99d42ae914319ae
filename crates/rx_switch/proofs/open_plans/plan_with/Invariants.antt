-- None of the plans so far has the door.
use Rattle.std.proofs.Common.{◌≡◌, drop, map}
use Rattle.std.specs.List.{list_any}
use Rattle.rx_d0_request.specs.Doors.{names_plan}
use Rattle.rx_switch.specs.RouteParts.{opened}
use Rattle.rx_switch.specs.Routed.{doors_of}
use Rattle.rx_switch.proofs.open_plans.plan_with.Given as goal

abbrev pub invariant-loop-plan : goal.invariant-loop-plan
invariant-loop-plan l = (l.number ≡ l.plan-index)
    × (list_any (λ other. names_plan other l.door) (doors_of (map opened l.so_far))
    ≡ list_any (λ other. names_plan other l.door) (doors_of (map opened (drop l.plan-index l.so_far))))
