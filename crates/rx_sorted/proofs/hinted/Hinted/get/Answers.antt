use Rattle.std.proofs.Common.{Some, sym, ap, ◌∙◌}
use Rattle.rx_sorted.proofs.Places.{item_at-at, item_at-gap}
use Rattle.rx_sorted.proofs.hinted.Hinted.get.Goals as goal

pub returns-in-Ok : goal.returns-in-Ok
returns-in-Ok g c =
    let read = rw c.as_slice.ensures.value at c.index-as_slice-at.is in
    ap Some read ∙ sym (item_at-at g.T.Key.Ord.cmp g.met.T.Key.Ord.total g.T.Keyed.key_of c.args.self.now
    c.args.key.now c.in-Ok.at c.index-as_slice-at.result c.as_slice.ensures.ascending c.in-Ok.ensures.found)

pub returns-in-Err : goal.returns-in-Err
returns-in-Err g c = sym (item_at-gap g.T.Key.Ord.cmp g.met.T.Key.Ord.total g.T.Keyed.key_of c.args.self.now
    c.args.key.now c.in-Err.field-0 c.in-Err.ensures.absent)
