use Rattle.std.proofs.Common.{◌≡◌, take}
use Rattle.std.specs.List.{flat_map}
use Rattle.rx_show.specs.Bytes.{shown_byte}
use Rattle.rx_show.proofs.bytes.shown.Given as goal

abbrev pub invariant-loop-byte : goal.invariant-loop-byte
invariant-loop-byte l = l.line.items ≡ flat_map shown_byte (take l.byte-index l.text)
