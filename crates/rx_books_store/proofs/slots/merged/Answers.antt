use Rattle.std.proofs.Common.{◌≡◌, false, true, ◌∙◌}
use Rattle.rx_fields.specs.Order.{key_cmp}
use Rattle.rx_sorted.proofs.Kept.{is_ascending-from_fact}
use Rattle.rx_ledger.proofs.Orders.{key_total}
use Rattle.rx_books_store.specs.Store.{slot_key}
use Rattle.rx_books_store.proofs.slots.merged.Goals as goal

pub unreachable-requires : goal.unreachable-requires
unreachable-requires c =
    let e : false ≡ true =
    c.in-Err.ensures.ok ∙ is_ascending-from_fact key_cmp key_total slot_key c.args.under.items c.requires.under in
    cc
