use Rattle.std.proofs.Common.{◌≡◌, take, drop}
use Rattle.rx_d0_request.specs.Slots.{texts_of, put}
use Rattle.rx_d0_request.proofs.Puts.{with_front}
use Rattle.rx_d0_request.proofs.field.put.Given as goal

abbrev pub invariant-loop-at : goal.invariant-loop-at
invariant-loop-at l =
    with_front (take l.at (texts_of l.slots)) (put (drop l.at l.keys) l.key l.text (drop l.at (texts_of l.slots)))
    ≡ put l.keys l.key l.text (texts_of l.fn.slots)
