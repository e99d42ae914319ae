-- The numbers of the details so far.
use Rattle.std.proofs.Common.{◌≡◌, map, take}
use Rattle.rx_d0_request.specs.Doors.{plan_named}
use Rattle.rx_switch.proofs.dealt_records.numbers_of.Given as goal

abbrev pub invariant-loop-detail : goal.invariant-loop-detail
invariant-loop-detail l = l.numbers.items ≡ map (λ d. plan_named l.doors d.text) (take l.detail-index l.details)
