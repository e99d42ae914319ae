use Rattle.std.proofs.Common.{set, sym, ap, ◌∙◌}
use Rattle.rx_sorted.specs.Slots.{over}
use Rattle.rx_sorted.proofs.OneSlot.{over_at, over_gap, over_rises}
use Rattle.rx_sorted.proofs.hinted.Hinted.put.Goals as goal

pub invariant_of-self : goal.invariant_of-self
invariant_of-self g c =
    let items = c.self.inside.items.items in
    let f = g.T.Slot.filled c.args.content in
    let key = g.T.Content.Keyed.key_of c.args.content in
    let at = rw (← c.self.view_is, c.key.ensures) at c.in-Ok.ensures.found in
    let put = c.put.ensures ∙ ap f c.index_mut.ensures.value in
    rw (
      put,
      over_at g.T.Key.Ord.cmp g.met.T.Key.Ord.total g.T.Keyed.key_of f key items c.in-Ok.at c.index_mut.result.now
          c.self.invariant at,
    )
    (over_rises g.T.Key.Ord.cmp g.met.T.Key.Ord.total g.T.Keyed.key_of f (g.met.T.Slot.filled_keeps c.args.content) key items
    c.self.invariant)

pub returns-in-Ok : goal.returns-in-Ok
returns-in-Ok g c =
    let items = c.self.inside.items.items in
    let f = g.T.Slot.filled c.args.content in
    let key = g.T.Content.Keyed.key_of c.args.content in
    let at = rw (← c.self.view_is, c.key.ensures) at c.in-Ok.ensures.found in
    let put = c.put.ensures ∙ ap f c.index_mut.ensures.value in
    ap (λ p. set items c.in-Ok.at p) put
    ∙ over_at g.T.Key.Ord.cmp g.met.T.Key.Ord.total g.T.Keyed.key_of f key items c.in-Ok.at c.index_mut.result.now
    c.self.invariant at
    ∙ ap (over g.T.Key.Ord.cmp g.T.Keyed.key_of f key) c.self.view_is

pub returns-in-Err : goal.returns-in-Err
returns-in-Err g c =
    let gap = rw c.key.ensures at c.in-Err.ensures.absent in
    sym (over_gap g.T.Key.Ord.cmp g.met.T.Key.Ord.total g.T.Keyed.key_of (g.T.Slot.filled c.args.content)
    (g.T.Content.Keyed.key_of c.args.content) c.args.self.now c.in-Err.field-0 gap)
