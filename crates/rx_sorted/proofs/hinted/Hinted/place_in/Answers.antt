use Rattle.std.proofs.Common.{sym, ap, ◌∙◌}
use Rattle.std.specs.Option.{is_some}
use Rattle.rx_sorted.proofs.Places.{item_at-at, item_at-gap}
use Rattle.rx_sorted.specs.Slots.{is_in}
use Rattle.rx_sorted.proofs.OneSlot.{is_told}
use Rattle.rx_sorted.proofs.hinted.Hinted.place_in.Goals as goal

pub returns-in-Ok : goal.returns-in-Ok
returns-in-Ok g c =
    let ascends = rw c.self.view_is at c.self.invariant in
    let read = rw c.self.view_is at c.index.ensures in
    let there = item_at-at g.T.Key.Ord.cmp g.met.T.Key.Ord.total g.T.Keyed.key_of c.args.self.now c.args.key.now c.in-Ok.at
    c.index.result.now ascends c.in-Ok.ensures.found in
    ap is_some c.then_some.ensures ∙ is_told c.is_held.result c.in-Ok.at ∙ c.is_held.ensures
    ∙ ap (λ p. is_some (g.T.Slot.held p)) read ∙ sym (ap (is_in g.T.Slot.held) there)

pub returns-in-Err : goal.returns-in-Err
returns-in-Err g c =
    sym (ap (is_in g.T.Slot.held) (item_at-gap g.T.Key.Ord.cmp g.met.T.Key.Ord.total g.T.Keyed.key_of c.args.self.now
    c.args.key.now c.in-Err.field-0 c.in-Err.ensures.absent))
