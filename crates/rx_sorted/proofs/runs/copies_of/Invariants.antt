-- The runs so far are copied.
use Rattle.std.proofs.Common.{◌≡◌, map, take}
use Rattle.std.specs.Vec.{vec_items}
use Rattle.rx_sorted.proofs.runs.copies_of.Given as goal

abbrev pub invariant-loop-run : goal.invariant-loop-run
invariant-loop-run g l = map vec_items l.copies.items ≡ map vec_items (take l.run-index l.runs)
