-- The records at the places so far.
use Rattle.std.proofs.Common.{◌≡◌, map, take}
use Rattle.rx_schedule.specs.Footprints.{record_at}
use Rattle.rx_wave.proofs.shard.records_at.Given as goal

abbrev pub invariant-loop-place : goal.invariant-loop-place
invariant-loop-place l = map (λ t. t.now) l.records.items ≡ map (record_at l.transmissions) (take l.place-index l.places)
