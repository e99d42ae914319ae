use Rattle.std.proofs.Common.{◌≡◌, false, take}
use Rattle.std.specs.Io.KnownBytes.{Appends}
use Rattle.std.specs.List.{flat_map}
use Rattle.rx_io.specs.Pieces.{text_of}
use Rattle.rx_switch.proofs.outputs.write_each.Given as goal

-- the pieces so far are written, and no write failed
abbrev pub invariant-loop-pieces : goal.invariant-loop-pieces
invariant-loop-pieces g l =
    Appends (g.S.Sink.written l.initial.sink) (g.S.Sink.written l.sink) (flat_map text_of (take l.pieces-index l.list))
    × (g.S.Sink.failed l.sink ≡ false)
