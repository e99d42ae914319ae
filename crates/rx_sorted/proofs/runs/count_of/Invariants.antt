-- The count of the rest, on top of that so far, is the count of all.
use Rattle.std.proofs.Common.{◌≡◌, ◌<◌, ◌^◌, [], drop}
use Rattle.rx_sorted.specs.Ascending.{IsAscending}
use Rattle.rx_sorted.proofs.InRuns.{count_from}
use Rattle.rx_sorted.proofs.runs.count_of.Given as goal

abbrev pub invariant-loop-run : goal.invariant-loop-run
invariant-loop-run g l = record {
  same : count_from g.T.Key.Ord.cmp g.T.Keyed.key_of l.before l.count (drop l.run-index l.runs)
      ≡ count_from g.T.Key.Ord.cmp g.T.Keyed.key_of [] 0 l.runs;
  ascending : IsAscending g.T.Key.Ord.cmp g.T.Keyed.key_of l.before;
  few : l.count < 2 ^ 63;
}
