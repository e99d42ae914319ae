use Rattle.std.proofs.Common.{◌≡◌, ◌+◌, ◌-◌, ◌<◌, ◌∙◌, ap, arith, is_lt, length, ltb-true, subst, sym}
use Rattle.rx_sorted.proofs.Keys.{Less-from_is_lt}
use Rattle.rx_sorted.specs.Near.{AreBefore}
use Rattle.rx_sorted.proofs.NearPlaces.{all_before}
use Rattle.rx_sorted.proofs.near.are_before.Goals as goal

pub returns-in-Some : goal.returns-in-Some
returns-in-Some g c = λ t.
    let xs = c.args.items.now in
    let k = c.args.key.now in
    let cmp = g.T.Key.Ord.cmp in
    let key = g.T.Keyed.key_of in
    let x = c.in-Some.item.now in
    let lt : c.args.place - 1 < length xs = ltb-true _ _ (sym c.in-Some.ensures.lookup.0) in
    let compared = c.is_lt.ensures ∙ ap is_lt
    (c.cmp.ensures ∙ ap (λ j. cmp j k) (c.key.ensures ∙ ap key c.in-Some.ensures.lookup.1)) in
    let back : c.args.place - 1 + 1 ≡ c.args.place = omega arith in
    subst (AreBefore cmp key xs k) back
    (all_before cmp g.met.T.Key.Ord.total key xs k (c.args.place - 1) x c.requires lt (Less-from_is_lt _ (sym compared ∙ t)))
