-- The fill keys of the transactions so far stand after the others.
use Rattle.std.proofs.Common.{◌≡◌, ◌++◌, take}
use Rattle.std.specs.List.{flat_map}
use Rattle.rx_serial.specs.Named.{keys_of}
use Rattle.rx_wave.proofs.names.put_keys.Given as goal

abbrev pub invariant-loop-transaction : goal.invariant-loop-transaction
invariant-loop-transaction l =
    l.keys.items ≡ l.initial.keys.items ++ flat_map (keys_of l.heard) (take l.transaction-index l.list)
