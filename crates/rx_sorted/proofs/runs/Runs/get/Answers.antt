use Rattle.std.proofs.Common.{Some, sym, ap, ◌∙◌}
use Rattle.std.proofs.lemmas.Option.{get_or_from_slice_get}
use Rattle.rx_sorted.proofs.Places.{item_at-at, item_at-gap}
use Rattle.rx_sorted.proofs.runs.Runs.get.Goals as goal

pub returns-in-Ok : goal.returns-in-Ok
returns-in-Ok g c =
    let ascends = rw c.self.view_is at c.self.invariant.ascending in
    let found = rw (c.deref.ensures.value, c.self.view_is) at c.in-Ok.ensures.found in
    let read = rw (c.deref-in-Ok.ensures.value, c.self.view_is) at c.item_of.ensures in
    let item = c.item_of.result.now in
    sym (item_at-at g.T.Key.Ord.cmp g.met.T.Key.Ord.total g.T.Keyed.key_of c.args.self.now c.args.key.now c.in-Ok.place
    item ascends found ∙ ap Some (get_or_from_slice_get c.args.self.now c.in-Ok.place item item read))

pub returns-in-Err : goal.returns-in-Err
returns-in-Err g c =
    let absent = rw (c.deref.ensures.value, c.self.view_is) at c.in-Err.ensures.absent in
    sym (item_at-gap g.T.Key.Ord.cmp g.met.T.Key.Ord.total g.T.Keyed.key_of c.args.self.now c.args.key.now
    c.in-Err.field-0 absent)
