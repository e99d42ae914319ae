use Rattle.std.proofs.Common.{is_ok}
use Rattle.std.proofs.lemmas.Bool.{cond_both}
use Rattle.rx_sorted.specs.Ascending.{IsAscending}
use Rattle.rx_sorted.proofs.Kept.{IsAscending-push}
use Rattle.rx_sorted.proofs.list.Ascending.push.Goals as goal

pub invariant_of-self : goal.invariant_of-self
invariant_of-self g c =
    let cmp = g.T.Key.Ord.cmp in
    let key = g.T.Keyed.key_of in
    let past = rw (← c.self.view_is) at c.requires in
    rw c.push.ensures.items
    (cond_both (is_ok c.push.result) _ _ (IsAscending cmp key)
    (λ _. IsAscending-push cmp g.met.T.Key.Ord.total key c.self.inside.items.items c.args.item c.self.invariant past)
    (λ _. c.self.invariant))
