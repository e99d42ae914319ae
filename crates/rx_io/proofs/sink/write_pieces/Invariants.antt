use Rattle.std.proofs.Common.{◌≡◌, false, take}
use Rattle.std.specs.Io.KnownBytes.{Appends}
use Rattle.std.specs.List.{flat_map}
use Rattle.std.specs.Vec.{vec_items}
use Rattle.rx_io.proofs.sink.write_pieces.Given as goal

-- the pieces so far are written, and no write failed
abbrev pub invariant-loop-piece : goal.invariant-loop-piece
invariant-loop-piece g l =
    Appends (g.S.Sink.written l.initial.sink) (g.S.Sink.written l.sink) (flat_map vec_items (take l.piece-index l.pieces))
    × (g.S.Sink.failed l.sink ≡ false)
