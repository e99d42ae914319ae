use Rattle.std.proofs.Common.{◌≡◌, Some, sym, ap, ◌∙◌}
use Rattle.std.specs.Prelude.{slice_get}
use Rattle.std.proofs.lemmas.Option.{get_or_from_slice_get}
use Rattle.rx_fields.specs.Order.{key_cmp}
use Rattle.rx_sorted.specs.Ascending.{IsAt, IsGap}
use Rattle.rx_sorted.proofs.Places.{item_at-at, item_at-gap}
use Rattle.rx_ledger.specs.Rows.{row_key}
use Rattle.rx_ledger.proofs.Orders.{key_total}
use Rattle.rx_books_store.proofs.slots.fresh_slot.Goals as goal

pub returns-in-Ok-clause-there : goal.returns-in-Ok-clause-there
returns-in-Ok-clause-there c =
    let rows = c.args.opening.now.rows in
    let r = c.at.result.now in
    let found : IsAt key_cmp row_key rows c.args.key.now c.in-Ok.at = rw c.rows.ensures.value at c.in-Ok.ensures.found in
    let here : slice_get rows c.in-Ok.at ≡ Some r =
    ap (λ xs. slice_get xs c.in-Ok.at) (sym c.rows-in-Ok.ensures.value) ∙ c.at.ensures in
    item_at-at key_cmp key_total row_key rows c.args.key.now c.in-Ok.at r c.rows.ensures.within.rows_rise found
    ∙ ap Some (get_or_from_slice_get rows c.in-Ok.at r r here)

pub returns-in-Err-clause-there : goal.returns-in-Err-clause-there
returns-in-Err-clause-there c =
    let gap : IsGap key_cmp row_key c.args.opening.now.rows c.args.key.now c.in-Err.field-0 =
    rw c.rows.ensures.value at c.in-Err.ensures.absent in
    item_at-gap key_cmp key_total row_key c.args.opening.now.rows c.args.key.now c.in-Err.field-0 gap
