-- The runs so far have lesser keys.
use Rattle.std.proofs.Common.{drop}
use Rattle.rx_sorted.specs.Runs.{items_of}
use Rattle.rx_sorted.proofs.InRuns.{IsReached}
use Rattle.rx_sorted.proofs.runs.search.Given as goal

abbrev pub invariant-loop-run : goal.invariant-loop-run
invariant-loop-run g l = IsReached g.T.Key.Ord.cmp g.T.Keyed.key_of (items_of l.runs) l.key l.start
    (items_of (drop l.run-index l.runs))
