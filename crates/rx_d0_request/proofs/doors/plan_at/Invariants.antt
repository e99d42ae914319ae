-- None of the doors so far is asked for.
use Rattle.std.proofs.Common.{◌≡◌, ◌+◌, drop}
use Rattle.rx_d0_request.specs.Doors.{plan_at}
use Rattle.rx_d0_request.proofs.doors.plan_at.Given as goal

abbrev pub invariant-loop-door : goal.invariant-loop-door
invariant-loop-door l = (l.number ≡ l.door-index) × (plan_at l.asked l.doors ≡ l.number + plan_at l.asked (drop l.door-index l.doors))
