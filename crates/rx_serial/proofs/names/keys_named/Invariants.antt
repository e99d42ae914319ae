-- The fill keys of the records so far.
use Rattle.std.proofs.Common.{◌≡◌, map, take}
use Rattle.std.specs.List.{flat_map}
use Rattle.rx_serial.specs.Named.{keys_in, named_key}
use Rattle.rx_serial.proofs.names.keys_named.Given as goal

abbrev pub invariant-loop-transmission : goal.invariant-loop-transmission
invariant-loop-transmission l =
    map named_key l.named.items ≡ flat_map (λ t. keys_in t.now.body) (take l.transmission-index l.records)
