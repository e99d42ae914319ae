use Rattle.std.proofs.Common.{◌≡◌, ◌≤◌, ◌+◌, false, take, vec_len}
use Rattle.std.specs.Io.KnownBytes.{Consumes}
use Rattle.rx_io.specs.Reading.{most_bytes}
use Rattle.rx_io.proofs.reading.fill.Given as goal

-- the front of the text was read, at least a byte a read, and no read failed
abbrev pub invariant-by_room : goal.invariant-by_room
invariant-by_room g l =
    Consumes (g.S.Source.left l.fn.source) (g.S.Source.left l.source) (take l.len l.text.items)
    × (g.S.Source.failed l.source ≡ false)
    × (l.counter ≤ l.len)
    × (l.len ≤ most_bytes)
    × (l.len ≤ vec_len l.text)
    × (g.S.Source.reads l.source ≤ g.S.Source.reads l.fn.source + l.counter)
    × (g.S.Source.cramped l.fn.source ≡ false → g.S.Source.cramped l.source ≡ false)
