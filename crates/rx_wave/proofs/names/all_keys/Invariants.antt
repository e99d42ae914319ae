-- The fill keys of the records so far.
use Rattle.std.proofs.Common.{◌≡◌, take}
use Rattle.std.specs.List.{flat_map}
use Rattle.rx_serial.specs.Named.{keys_in}
use Rattle.rx_wave.proofs.names.all_keys.Given as goal

abbrev pub invariant-loop-transmission : goal.invariant-loop-transmission
invariant-loop-transmission l = l.keys.items ≡ flat_map (λ t. keys_in t.body) (take l.transmission-index l.transmissions)
