-- One more list, at the end of those so far; after the last, each is there.
use Rattle.std.proofs.Common.{◌≡◌, ◌++◌, ◌∷◌, ◌+◌, ◌∙◌, [], ap, arith, sym, take}
use Rattle.std.specs.List.{flat_map}
use Rattle.std.specs.Vec.{vec_items}
use Rattle.std.proofs.lemmas.List.{flat_map_more, take_all, take_more}
use Rattle.rx_books_store.proofs.holders.joined.Goals as goal

pub loop-list-preserved : goal.loop-list-preserved
loop-list-preserved c =
    let lists = c.args.lists.now in
    let i = c.loop-list.list-index in
    let list = c.list-item.result in
    let more : take (i + 1) lists ≡ take i lists ++ list ∷ [] =
    take_more lists i list c.loop-list-test.true ∙ ap (λ x. take i lists ++ x ∷ []) (sym c.list-item.is) in
    rw (c.in-Ok.ensures.items, c.deref.ensures.value, c.loop-list.invariant, more)
    (flat_map_more vec_items [] (take i lists) list)

pub returns : goal.returns
returns c =
    c.loop-list.invariant ∙ ap (flat_map vec_items) (take_all c.loop-list.list-index c.args.lists.now (omega arith))
