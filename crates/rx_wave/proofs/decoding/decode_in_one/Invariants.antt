use Rattle.std.proofs.Common.{◌≡◌, take}
use Rattle.rx_wave.specs.AtDoors.{transmissions_at}
use Rattle.rx_wave.proofs.decoding.decode_in_one.Given as goal

-- the details so far are decoded
abbrev pub invariant-loop-detail : goal.invariant-loop-detail
invariant-loop-detail l = l.transmissions.items ≡ transmissions_at l.at (take l.detail-index l.details)
