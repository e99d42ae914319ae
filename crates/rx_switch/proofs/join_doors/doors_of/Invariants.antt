-- The doors of the plans so far.
use Rattle.std.proofs.Common.{◌≡◌, length, map, take}
use Rattle.rx_switch.specs.JoinParts.{response_texts}
use Rattle.rx_switch.specs.JoinRefused.{HaveDoors}
use Rattle.rx_switch.proofs.join_doors.doors_of.Given as goal

abbrev pub invariant-loop-plan : goal.invariant-loop-plan
invariant-loop-plan l = record {
  have : HaveDoors (map response_texts (take l.plan-index l.plans)) l.doors.items;
  count : length l.doors.items ≡ l.plan-index;
}
