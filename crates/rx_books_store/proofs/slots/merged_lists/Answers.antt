use Rattle.std.proofs.Common.{◌≡◌, [], ◌++◌, drop, true, false, sym, ap, ◌∙◌}
use Rattle.std.proofs.lemmas.List.{append-nil}
use Rattle.rx_fields.specs.Order.{key_cmp}
use Rattle.rx_sorted.specs.Ascending.{is_ascending, put_all}
use Rattle.rx_sorted.proofs.Kept.{IsAscending-put_all, is_ascending-from_fact}
use Rattle.rx_ledger.proofs.Orders.{key_total}
use Rattle.rx_books_store.specs.Store.{slot_key}
use Rattle.rx_books_store.proofs.slots.merged_lists.Goals as goal

pub unreachable-requires : goal.unreachable-requires
unreachable-requires c =
    let rest = c.slots.invariant.rest in
    let none : put_all key_cmp slot_key (drop c.slots.low c.args.under.now) (drop c.slots.high c.args.over.now) ≡ [] =
    c.in_default.ensures.none in
    let whole : c.slots.slots.items ≡ put_all key_cmp slot_key c.args.under.now c.args.over.now =
    sym (append-nil c.slots.slots.items) ∙ ap (λ xs. c.slots.slots.items ++ xs) (sym none) ∙ rest in
    let rise : is_ascending key_cmp slot_key c.slots.slots.items ≡ true =
    ap (is_ascending key_cmp slot_key) whole
    ∙ is_ascending-from_fact key_cmp key_total slot_key (put_all key_cmp slot_key c.args.under.now c.args.over.now)
    (IsAscending-put_all key_cmp key_total slot_key c.args.under.now c.args.over.now c.requires.under) in
    let fails : false ≡ is_ascending key_cmp slot_key c.slots.slots.items = c.in-Err.ensures.ok in
    let e : false ≡ true = fails ∙ rise in
    cc
