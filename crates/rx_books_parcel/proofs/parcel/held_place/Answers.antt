use Rattle.std.proofs.Common.{◌≡◌, false, true, sym, ◌∙◌}
use Rattle.rx_sorted.proofs.Places.{contains_key-gap}
use Rattle.rx_books_parcel.proofs.parcel.held_place.Goals as goal

pub unreachable-requires : goal.unreachable-requires
unreachable-requires g c =
    let none = contains_key-gap g.T.Key.Ord.cmp g.met.T.Key.Ord.total g.T.Keyed.key_of c.args.items.now c.args.key.now
    c.in-Err.field-0 c.in-Err.ensures.absent in
    let e : false ≡ true = sym none ∙ c.requires.held in
    cc
