use Rattle.std.proofs.Common.{Some, sym, ap, ◌∙◌}
use Rattle.rx_sorted.proofs.Places.{item_at-at, item_at-gap, remove-at, without-gap, IsAscending-remove}
use Rattle.rx_sorted.proofs.list.Ascending.remove.Goals as goal

pub invariant_of-self : goal.invariant_of-self
invariant_of-self g c =
    let at = rw (← c.self.view_is) at c.in-Ok.ensures.found in
    rw c.remove.ensures.items (IsAscending-remove g.T.Key.Ord.cmp g.met.T.Key.Ord.total g.T.Keyed.key_of
    c.self.inside.items.items c.in-Ok.at c.self.invariant at.in_range)

pub returns-in-Ok-clause-value : goal.returns-in-Ok-clause-value
returns-in-Ok-clause-value g c =
    let ascends = rw c.self.view_is at c.self.invariant in
    let read = rw c.self.view_is at c.remove.ensures.value in
    ap Some read ∙ sym (item_at-at g.T.Key.Ord.cmp g.met.T.Key.Ord.total g.T.Keyed.key_of c.args.self.now
    c.args.key.now c.in-Ok.at c.remove.result ascends c.in-Ok.ensures.found)

pub returns-in-Ok-clause-items : goal.returns-in-Ok-clause-items
returns-in-Ok-clause-items g c =
    let ascends = rw c.self.view_is at c.self.invariant in
    let left = rw c.self.view_is at c.remove.ensures.items in
    left ∙ remove-at g.T.Key.Ord.cmp g.met.T.Key.Ord.total g.T.Keyed.key_of c.args.self.now c.args.key.now
    c.in-Ok.at ascends c.in-Ok.ensures.found

pub returns-in-Err-clause-value : goal.returns-in-Err-clause-value
returns-in-Err-clause-value g c = sym (item_at-gap g.T.Key.Ord.cmp g.met.T.Key.Ord.total g.T.Keyed.key_of
    c.args.self.now c.args.key.now c.in-Err.field-0 c.in-Err.ensures.absent)

pub returns-in-Err-clause-items : goal.returns-in-Err-clause-items
returns-in-Err-clause-items g c = sym (without-gap g.T.Key.Ord.cmp g.met.T.Key.Ord.total g.T.Keyed.key_of
    c.args.self.now c.args.key.now c.in-Err.field-0 c.in-Err.ensures.absent)
