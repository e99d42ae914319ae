use Rattle.std.proofs.Common.{length, ◌-◌, ◌≡◌, false, ◌≤◌, take}
use Rattle.std.specs.Io.KnownBytes.{Appends}
use Rattle.rx_io.proofs.sink.write_all.Given as goal

-- the text's front is written, and no write failed
abbrev pub invariant-by_piece : goal.invariant-by_piece
invariant-by_piece g l =
    (l.done ≤ length l.text)
    × Appends (g.S.Sink.written l.fn.sink) (g.S.Sink.written l.sink) (take l.done l.text)
    × (g.S.Sink.failed l.sink ≡ false)
    × (l.text ≡ l.fn.text)

abbrev pub decreases-by_piece : goal.decreases-by_piece
decreases-by_piece g l = length l.text - l.done
