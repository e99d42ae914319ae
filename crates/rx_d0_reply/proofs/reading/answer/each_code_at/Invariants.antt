use Rattle.std.proofs.Common.{◌≡◌, ◌-◌, length, take}
use Rattle.rx_d0_reply.specs.Readers.{times}
use Rattle.rx_d0_reply.specs.Reading.{code_at}
use Rattle.rx_d0_reply.proofs.Loops.{with_front}
use Rattle.rx_d0_reply.proofs.reading.answer.each_code_at.Given as goal

abbrev pub invariant-loop-place : goal.invariant-loop-place
invariant-loop-place l =
    record {
      room : length l.codes ≡ 5;
      so_far : with_front (take l.place l.codes) (times code_at (l.count - l.place) l.rest) ≡ times code_at l.count l.bytes;
    }
