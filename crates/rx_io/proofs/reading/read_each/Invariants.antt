use Rattle.std.proofs.Common.{◌≡◌, ◌≤◌, ◌+◌, false, vec_len}
use Rattle.rx_io.specs.Reading.{PassesPiece, least_room, most_bytes}
use Rattle.rx_io.proofs.reading.read_each.Given as goal

-- this many bytes went on, at least one a read, and no read failed
abbrev pub invariant-by_piece : goal.invariant-by_piece
invariant-by_piece g l =
    PassesPiece (g.S.Source.left l.fn.source) (g.S.Source.left l.source) (g.C.Consumer.stands_for l.fn.consumer)
    (g.C.Consumer.stands_for l.consumer) l.total
    × (g.S.Source.failed l.source ≡ false)
    × (l.counter ≤ l.total)
    × (l.total ≤ most_bytes)
    × (least_room ≤ vec_len l.room)
    × (g.S.Source.reads l.source ≤ g.S.Source.reads l.fn.source + l.counter)
    × (g.S.Source.cramped l.fn.source ≡ false → g.S.Source.cramped l.source ≡ false)
