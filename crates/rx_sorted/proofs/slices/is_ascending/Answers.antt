-- each two neighbours are compared by their keys
use Rattle.std.proofs.Common.{rules}
use Rattle.std.specs.Ordering.{is_lt}
use Rattle.std.proofs.lemmas.List.Sorted.{answers_always}
use Rattle.rx_sorted.proofs.Kept.{is_ascending-neighbours}
use Rattle.rx_sorted.proofs.slices.is_ascending.Goals as goal

pub returns : goal.returns
returns g c =
    let cmp = g.T.Key.Ord.cmp in
    let key = g.T.Keyed.key_of in
    is_ascending-neighbours cmp g.met.T.Key.Ord.total key c.args.items.now c.is_sorted_by.result
    (c.is_sorted_by.ensures.cases (λ x y. is_lt (cmp (key x) (key y)))
    (answers_always _ _ _ (λ f a r h called. search rules)))
