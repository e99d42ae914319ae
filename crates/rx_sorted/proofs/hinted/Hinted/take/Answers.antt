use Rattle.std.proofs.Common.{set, sym, ap, ◌∙◌}
use Rattle.std.specs.Option.{option_and_then}
use Rattle.rx_sorted.proofs.Places.{item_at-at, item_at-gap}
use Rattle.rx_sorted.specs.Slots.{over}
use Rattle.rx_sorted.proofs.OneSlot.{over_at, over_gap, over_rises}
use Rattle.rx_sorted.proofs.hinted.Hinted.take.Goals as goal

pub invariant_of-self : goal.invariant_of-self
invariant_of-self g c =
    let at = rw (← c.self.view_is) at c.in-Ok.ensures.found in
    let taken = c.take.ensures.slot ∙ ap g.T.Slot.emptied c.index_mut.ensures.value in
    rw (
      taken,
      over_at g.T.Key.Ord.cmp g.met.T.Key.Ord.total g.T.Keyed.key_of g.T.Slot.emptied c.args.key.now c.self.inside.items.items
          c.in-Ok.at c.index_mut.result.now c.self.invariant at,
    )
    (over_rises g.T.Key.Ord.cmp g.met.T.Key.Ord.total g.T.Keyed.key_of g.T.Slot.emptied g.met.T.Slot.emptied_keeps c.args.key.now
    c.self.inside.items.items c.self.invariant)

pub returns-in-Ok-clause-content : goal.returns-in-Ok-clause-content
returns-in-Ok-clause-content g c =
    let ascends = rw c.self.view_is at c.self.invariant in
    let read = rw c.self.view_is at c.index_mut.ensures.value in
    let there = item_at-at g.T.Key.Ord.cmp g.met.T.Key.Ord.total g.T.Keyed.key_of c.args.self.now c.args.key.now c.in-Ok.at
    c.index_mut.result.now ascends c.in-Ok.ensures.found in
    c.take.ensures.content ∙ ap g.T.Slot.held read ∙ sym (ap (option_and_then g.T.Slot.held) there)

pub returns-in-Ok-clause-slots : goal.returns-in-Ok-clause-slots
returns-in-Ok-clause-slots g c =
    let at = rw (← c.self.view_is) at c.in-Ok.ensures.found in
    let taken = c.take.ensures.slot ∙ ap g.T.Slot.emptied c.index_mut.ensures.value in
    ap (λ p. set c.self.inside.items.items c.in-Ok.at p) taken
    ∙ over_at g.T.Key.Ord.cmp g.met.T.Key.Ord.total g.T.Keyed.key_of g.T.Slot.emptied c.args.key.now c.self.inside.items.items
    c.in-Ok.at c.index_mut.result.now c.self.invariant at
    ∙ ap (over g.T.Key.Ord.cmp g.T.Keyed.key_of g.T.Slot.emptied c.args.key.now) c.self.view_is

pub returns-in-Err-clause-content : goal.returns-in-Err-clause-content
returns-in-Err-clause-content g c =
    sym (ap (option_and_then g.T.Slot.held) (item_at-gap g.T.Key.Ord.cmp g.met.T.Key.Ord.total g.T.Keyed.key_of c.args.self.now
    c.args.key.now c.in-Err.field-0 c.in-Err.ensures.absent))

pub returns-in-Err-clause-slots : goal.returns-in-Err-clause-slots
returns-in-Err-clause-slots g c =
    sym (over_gap g.T.Key.Ord.cmp g.met.T.Key.Ord.total g.T.Keyed.key_of g.T.Slot.emptied c.args.key.now c.args.self.now
    c.in-Err.field-0 c.in-Err.ensures.absent)
