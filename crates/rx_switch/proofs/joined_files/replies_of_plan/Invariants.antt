-- The replies to the records so far.
use Rattle.std.proofs.Common.{take}
use Rattle.std.specs.List.{AllZip}
use Rattle.rx_switch.specs.JoinParts.{IsPicked}
use Rattle.rx_switch.proofs.joined_files.replies_of_plan.Given as goal

abbrev pub invariant-loop-place : goal.invariant-loop-place
invariant-loop-place l = AllZip (IsPicked l.dealt.lot l.dealt.asked.items l.own) (take l.place-index l.places) l.replies.items
