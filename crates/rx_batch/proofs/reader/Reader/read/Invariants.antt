use Rattle.std.proofs.Common.{ℕ, List, length}
use Rattle.rx_batch.specs.Pieces.{IsReadUpTo}
use Rattle.rx_batch.proofs.reader.Reader.read.Given as goal

-- what was read of each text up to the piece was read up to what is left of the piece
abbrev pub invariant-loop-rest : goal.invariant-loop-rest
invariant-loop-rest l = (text : List ℕ) → IsReadUpTo l.fn.self text l.piece → IsReadUpTo l.self text l.rest

abbrev pub decreases-loop-rest : goal.decreases-loop-rest
decreases-loop-rest l = length l.rest
