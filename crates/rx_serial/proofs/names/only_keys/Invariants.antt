-- The keys so far.
use Rattle.std.proofs.Common.{◌≡◌, map, take}
use Rattle.rx_serial.specs.Named.{named_key}
use Rattle.rx_serial.proofs.names.only_keys.Given as goal

abbrev pub invariant-loop-name : goal.invariant-loop-name
invariant-loop-name l = l.keys.items ≡ map named_key (take l.name-index l.named)
