-- The lists agree if their rests do.
use Rattle.std.proofs.Common.{◌≡◌, drop}
use Rattle.std.specs.Cmp.Lexicographic.{pointwise}
use Rattle.rx_sorted.specs.Runs.{items_of}
use Rattle.rx_sorted.proofs.runs.same_items.Given as goal

abbrev pub invariant-loop-place : goal.invariant-loop-place
invariant-loop-place g l = pointwise g.T.PartialEq.eq (drop l.place (items_of l.runs)) (drop l.place (items_of l.others))
    ≡ pointwise g.T.PartialEq.eq (items_of l.runs) (items_of l.others)
