use Rattle.rx_sorted.proofs.InRuns.{AreRuns-counted}
use Rattle.rx_sorted.proofs.runs.Runs.from_runs.Goals as goal

pub invariant_of-result : goal.invariant_of-result
invariant_of-result g c = AreRuns-counted g.T.Key.Ord.cmp g.met.T.Key.Ord.total g.T.Keyed.key_of c.args.runs.items
    c.in-Some.len (rw c.deref.ensures.value at c.in-Some.ensures)
