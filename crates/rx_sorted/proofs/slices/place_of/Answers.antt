-- the search is by the key of each item
use Rattle.std.proofs.Common.{rules}
use Rattle.std.proofs.lemmas.List.Sorted.{answers_always}
use Rattle.rx_sorted.proofs.Places.{searched}
use Rattle.rx_sorted.proofs.slices.place_of.Goals as goal

pub returns : goal.returns
returns g c =
    let key = g.T.Keyed.key_of in
    let facts = c.binary_search_by_key.ensures in
    let by_key = facts.position key (answers_always _ _ _ (λ f a r h called. search rules)) in
    let ends = searched g.T.Key.Ord.cmp g.met.T.Key.Ord.total key c.args.items.now c.args.key.now
    c.binary_search_by_key.result c.requires facts.bound by_key in
    record { found = ends.0; absent = ends.1 }
