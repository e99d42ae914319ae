-- The replies to the own records so far.
use Rattle.std.specs.Prelude.{slice_index_or}
use Rattle.std.proofs.Common.{◌≡◌, ◌-◌, map}
use Rattle.rx_schedule.specs.Shards.{places_of}
use Rattle.rx_switch.specs.Own.{no_reply}
use Rattle.rx_commands.specs.Own.{is_own}
use Rattle.rx_commands.proofs.own_records.own_replies.Given as goal

abbrev pub invariant-loop-at : goal.invariant-loop-at
invariant-loop-at l =
    l.own.items ≡ map (λ place. slice_index_or l.batch.replies.items (place - 1) no_reply) (places_of (is_own l.batch) l.at)
