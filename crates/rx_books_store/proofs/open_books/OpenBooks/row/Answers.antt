use Rattle.std.proofs.Common.{◌≡◌, None, Some, sym, ap, ◌∙◌}
use Rattle.std.specs.List.{All}
use Rattle.rx_fields.specs.Order.{key_cmp}
use Rattle.rx_sorted.specs.Ascending.{item_at}
use Rattle.rx_sorted.specs.Overlaid.{found_under}
use Rattle.rx_sorted.proofs.Overlaid.{item_at-overlaid}
use Rattle.rx_ledger.specs.Rows.{row_key}
use Rattle.rx_ledger.proofs.Orders.{key_total}
use Rattle.rx_books_store.specs.Store.{held, slot_key}
use Rattle.rx_books_store.proofs.Passes.{Own}
use Rattle.rx_books_store.proofs.open_books.OpenBooks.row.Goals as goal

pub returns-in-Some-held : goal.returns-in-Some-held
returns-in-Some-held c =
    let slots = c.self.inside.changed in
    let rows = c.self.inside.opening.rows in
    let k = c.args.key.now in
    let own : All Own slots = λ j d lt. (c.self.invariant.slots_own j d lt).under in
    let found : item_at key_cmp slot_key slots k ≡ Some c.in-Some.slot.now = sym c.in-Some.ensures in
    let whole = item_at-overlaid key_cmp key_total row_key slot_key held rows slots k c.self.invariant.slots_rise own in
    rw (← c.self.view_is) (sym (whole ∙ ap (λ o. found_under key_cmp row_key slot_key held o (item_at key_cmp row_key rows k)) found
    ∙ c.in-Some-held.is))

pub returns-in-None-held : goal.returns-in-None-held
returns-in-None-held c =
    let slots = c.self.inside.changed in
    let rows = c.self.inside.opening.rows in
    let k = c.args.key.now in
    let own : All Own slots = λ j d lt. (c.self.invariant.slots_own j d lt).under in
    let found : item_at key_cmp slot_key slots k ≡ Some c.in-Some.slot.now = sym c.in-Some.ensures in
    let whole = item_at-overlaid key_cmp key_total row_key slot_key held rows slots k c.self.invariant.slots_rise own in
    rw (← c.self.view_is) (sym (whole ∙ ap (λ o. found_under key_cmp row_key slot_key held o (item_at key_cmp row_key rows k)) found
    ∙ c.in-None-held.is))

pub returns-in-None : goal.returns-in-None
returns-in-None c =
    let slots = c.self.inside.changed in
    let rows = c.self.inside.opening.rows in
    let k = c.args.key.now in
    let own : All Own slots = λ j d lt. (c.self.invariant.slots_own j d lt).under in
    let found : item_at key_cmp slot_key slots k ≡ None = sym c.in-None.ensures in
    let whole = item_at-overlaid key_cmp key_total row_key slot_key held rows slots k c.self.invariant.slots_rise own in
    rw (← c.self.view_is) (c.get-in-None.ensures ∙ ap (λ xs. item_at key_cmp row_key xs k) c.rows.ensures.value
    ∙ sym (whole ∙ ap (λ o. found_under key_cmp row_key slot_key held o (item_at key_cmp row_key rows k)) found))
