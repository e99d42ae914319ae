use Rattle.std.proofs.Common.{◌∙◌}
use Rattle.rx_sorted.proofs.InRuns.{AreRuns-same, items_of-same}
use Rattle.rx_sorted.proofs.runs.Runs.to_copy.Goals as goal

pub invariant_of-result : goal.invariant_of-result
invariant_of-result g c = AreRuns-same g.T.Key.Ord.cmp g.T.Keyed.key_of c.in_ok-runs.runs.items
    c.self.inside.runs.items c.self.inside.len (rw c.deref.ensures.value at c.in_ok-runs.ensures) c.self.invariant

pub returns : goal.returns
returns g c = items_of-same c.in_ok-runs.runs.items c.self.inside.runs.items
    (rw c.deref.ensures.value at c.in_ok-runs.ensures) ∙ c.self.view_is
