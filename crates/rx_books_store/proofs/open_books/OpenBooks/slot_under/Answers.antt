use Rattle.std.proofs.Common.{sym, ap, ◌∙◌}
use Rattle.rx_fields.specs.Order.{key_cmp}
use Rattle.rx_sorted.specs.Ascending.{IsAt, IsGap}
use Rattle.rx_ledger.specs.Ledger.{row_under}
use Rattle.rx_books_store.specs.Store.{slot_key, standing}
use Rattle.rx_books_store.proofs.Stored.{row-at_slot}
use Rattle.rx_books_store.proofs.Taken.{key-there, own-there, under-gap}
use Rattle.rx_books_store.proofs.open_books.OpenBooks.slot_under.Goals as goal

pub returns-in-Ok-clause-key : goal.returns-in-Ok-clause-key
returns-in-Ok-clause-key c =
    let slots = c.self.inside.changed in
    let at : IsAt key_cmp slot_key slots c.args.key.now c.in-Ok.slot = rw c.as_slice.ensures.value at c.in-Ok.ensures.found in
    key-there slots c.args.key.now c.in-Ok.slot c.slot_at.result at c.slot_at.ensures

pub returns-in-Ok-clause-own : goal.returns-in-Ok-clause-own
returns-in-Ok-clause-own c =
    rw (← c.self.view_is) (own-there c.self.inside.opening.members c.self.inside.changed c.in-Ok.slot c.slot_at.result
    c.slot_at.ensures c.self.invariant.slots_own)

pub returns-in-Ok-clause-there : goal.returns-in-Ok-clause-there
returns-in-Ok-clause-there c =
    let slots = c.self.inside.changed in
    let at : IsAt key_cmp slot_key slots c.args.key.now c.in-Ok.slot = rw c.as_slice.ensures.value at c.in-Ok.ensures.found in
    let same = key-there slots c.args.key.now c.in-Ok.slot c.slot_at.result at c.slot_at.ensures in
    rw (← c.self.view_is) (ap (row_under (standing c.self.inside.opening slots)) (sym same)
    ∙ row-at_slot _ _ _ _ _ _ c.self.invariant c.in-Ok.slot c.slot_at.result c.slot_at.ensures)

pub returns-in-Err-clause-there : goal.returns-in-Err-clause-there
returns-in-Err-clause-there c =
    let slots = c.self.inside.changed in
    let gap : IsGap key_cmp slot_key slots c.args.key.now c.in-Err.field-0 =
    rw c.as_slice.ensures.value at c.in-Err.ensures.absent in
    rw (← c.self.view_is) (under-gap c.self.inside.opening slots c.args.key.now c.in-Err.field-0 c.self.invariant.slots_rise
    c.self.invariant.slots_own gap ∙ c.fresh_slot.ensures.there)
