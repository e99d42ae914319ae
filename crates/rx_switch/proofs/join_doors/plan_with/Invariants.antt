-- None of the doors so far is this one.
use Rattle.std.proofs.Common.{◌≡◌, drop}
use Rattle.std.specs.List.{list_any}
use Rattle.rx_d0_request.specs.Doors.{names_plan}
use Rattle.rx_switch.proofs.join_doors.plan_with.Given as goal

abbrev pub invariant-loop-other : goal.invariant-loop-other
invariant-loop-other l = (l.number ≡ l.other-index)
    × (list_any (λ other. names_plan other l.door) l.doors
    ≡ list_any (λ other. names_plan other l.door) (drop l.other-index l.doors))
