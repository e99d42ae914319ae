use Rattle.std.proofs.Common.{◌≡◌, ◌-◌}
use Rattle.rx_d0_reply.specs.Readers.{times}
use Rattle.rx_d0_reply.specs.Reading.{group_at}
use Rattle.rx_d0_reply.proofs.Loops.{with_front}
use Rattle.rx_d0_reply.proofs.reading.groups_at.Given as goal

abbrev pub invariant-loop : goal.invariant-loop
invariant-loop l =
    with_front l.answers.items (times group_at (l.count - l.counter) l.rest) ≡ times group_at l.count l.bytes
