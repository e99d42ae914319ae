-- The replies to the strays so far.
use Rattle.std.proofs.Common.{◌≡◌, map, take}
use Rattle.rx_schedule.specs.Footprints.{record_at}
use Rattle.rx_switch.specs.RouteParts.{rejected_reply}
use Rattle.rx_switch.proofs.finished_plans.replies_to_strays.Given as goal

abbrev pub invariant-loop-place : goal.invariant-loop-place
invariant-loop-place l = l.replies.items ≡ map (λ place. rejected_reply (record_at l.asked place)) (take l.place-index l.places)
