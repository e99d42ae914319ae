use Rattle.std.proofs.Common.{Some, sym, ap, ◌∙◌}
use Rattle.rx_sorted.proofs.Places.{item_at-at, item_at-gap}
use Rattle.rx_sorted.proofs.list.Ascending.get.Goals as goal

pub returns-in-Ok : goal.returns-in-Ok
returns-in-Ok g c =
    let ascends = rw c.self.view_is at c.self.invariant in
    let read = rw c.self.view_is at c.index.ensures in
    ap Some read ∙ sym (item_at-at g.T.Key.Ord.cmp g.met.T.Key.Ord.total g.T.Keyed.key_of c.args.self.now
    c.args.key.now c.in-Ok.at c.index.result.now ascends c.in-Ok.ensures.found)

pub returns-in-Err : goal.returns-in-Err
returns-in-Err g c = sym (item_at-gap g.T.Key.Ord.cmp g.met.T.Key.Ord.total g.T.Keyed.key_of c.args.self.now
    c.args.key.now _ c.in-Err.ensures.absent)
