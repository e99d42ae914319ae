use Rattle.std.proofs.Common.{◌<◌, ◌∙◌, ap, is_gt, length, ltb-true, sym}
use Rattle.rx_sorted.proofs.NearPlaces.{Greater-from_is_gt, all_behind}
use Rattle.rx_sorted.proofs.near.are_behind.Goals as goal

pub returns-in-Some : goal.returns-in-Some
returns-in-Some g c = λ t.
    let xs = c.args.items.now in
    let k = c.args.key.now in
    let cmp = g.T.Key.Ord.cmp in
    let key = g.T.Keyed.key_of in
    let lt : c.args.place < length xs = ltb-true _ _ (sym c.in-Some.ensures.lookup.0) in
    let compared = c.is_gt.ensures ∙ ap is_gt
    (c.cmp.ensures ∙ ap (λ j. cmp j k) (c.key.ensures ∙ ap key c.in-Some.ensures.lookup.1)) in
    all_behind cmp g.met.T.Key.Ord.total key xs k c.args.place c.in-Some.item.now c.requires lt
    (Greater-from_is_gt _ (sym compared ∙ t))
