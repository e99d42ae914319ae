use Rattle.std.specs.Io.KnownBytes.{Keeps}
use Rattle.rx_io.proofs.wrapped.write_through.Given as goal

-- an interrupted write changed nothing
abbrev pub invariant-by_try : goal.invariant-by_try
invariant-by_try g l = Keeps (g.W.Write.contents l.fn.writer) (g.W.Write.contents l.writer)
