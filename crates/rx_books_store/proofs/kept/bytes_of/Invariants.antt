use Rattle.std.proofs.Common.{◌≡◌, sum, take}
use Rattle.rx_books_store.proofs.kept.bytes_of.Given as goal

-- the bytes so far
abbrev pub invariant-loop-length : goal.invariant-loop-length
invariant-loop-length l = l.bytes ≡ sum (take l.length-index l.lengths)
