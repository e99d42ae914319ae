-- The fill keys of the transactions so far stand after the others.
use Rattle.std.proofs.Common.{◌≡◌, ◌++◌, map, take}
use Rattle.std.specs.List.{flat_map}
use Rattle.rx_serial.specs.Named.{keys_of, named_key}
use Rattle.rx_serial.proofs.names.put_keys.Given as goal

abbrev pub invariant-loop-transaction : goal.invariant-loop-transaction
invariant-loop-transaction l =
    map named_key l.named.items ≡ map named_key l.initial.named.items ++ flat_map (keys_of l.heard) (take l.transaction-index l.list)
