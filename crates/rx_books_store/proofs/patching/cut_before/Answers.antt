-- The row with the slot's key, or the gap where it would be, and the slot are a cut.
use Rattle.std.proofs.Common.{subst, sym}
use Rattle.rx_fields.specs.Order.{key_cmp}
use Rattle.rx_sorted.specs.Ascending.{IsAt, IsGap}
use Rattle.rx_ledger.specs.Rows.{row_key}
use Rattle.rx_books_store.specs.declared.slot.KeySlot.{KeySlot}
use Rattle.rx_books_store.proofs.Spans.{cut_found, cut_missed}
use Rattle.rx_books_store.proofs.patching.cut_before.Goals as goal

pub returns-in-Ok-clause-cut : goal.returns-in-Ok-clause-cut
returns-in-Ok-clause-cut c =
    let rows = c.args.rows.now in
    let is = c.index-slots-slot.is in
    cut_found rows c.args.slots.now c.requires.rise c.in-Ok.row c.args.slot c.index-slots-slot.result c.requires.within is
    c.requires.up (subst (λ (s : KeySlot). IsAt key_cmp row_key rows s.key c.in-Ok.row) (sym is) c.in-Ok.ensures.found)

pub returns-in-Err-clause-cut : goal.returns-in-Err-clause-cut
returns-in-Err-clause-cut c =
    let rows = c.args.rows.now in
    let is = c.index-slots-slot.is in
    cut_missed rows c.args.slots.now c.requires.rise c.in-Err.row c.args.slot c.index-slots-slot.result c.requires.within is
    (subst (λ (s : KeySlot). IsGap key_cmp row_key rows s.key c.in-Err.row) (sym is) c.in-Err.ensures.absent)
