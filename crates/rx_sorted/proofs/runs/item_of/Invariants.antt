-- The item is at the rest of the place, in the runs that are left.
use Rattle.std.proofs.Common.{◌≡◌, ◌<◌, length, drop}
use Rattle.std.specs.Prelude.{slice_get}
use Rattle.rx_sorted.specs.Runs.{items_of}
use Rattle.rx_sorted.proofs.runs.item_of.Given as goal

abbrev pub invariant-loop-run : goal.invariant-loop-run
invariant-loop-run g l = record {
  in_range : l.rest < length (items_of (drop l.run-index l.runs));
  same : slice_get (items_of (drop l.run-index l.runs)) l.rest ≡ slice_get (items_of l.runs) l.place;
}
