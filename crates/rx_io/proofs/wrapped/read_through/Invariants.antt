use Rattle.std.proofs.Common.{◌≡◌, ◌≤◌, ◌+◌, false, length}
use Rattle.std.specs.Io.KnownBytes.{Keeps}
use Rattle.rx_io.specs.Reading.{least_room}
use Rattle.rx_io.proofs.wrapped.read_through.Given as goal

-- an interrupted call changed nothing, and was one of those that may be made again
abbrev pub invariant-by_try : goal.invariant-by_try
invariant-by_try g l =
    Keeps (g.R.Read.remaining l.fn.reader.reader) (g.R.Read.remaining l.reader.reader)
    × (l.reader.calls + l.again ≤ l.fn.reader.calls + l.fn.again)
    × (l.again ≤ l.fn.again)
    × (least_room ≤ length l.buffer → l.fn.reader.cramped ≡ false → l.reader.cramped ≡ false)

abbrev pub decreases-by_try : goal.decreases-by_try
decreases-by_try g l = l.again
