use Rattle.std.proofs.Common.{◌≡◌, false, map, true, refl, sym, ap, subst, ◌∙◌}
use Rattle.rx_fields.specs.Order.{key_cmp}
use Rattle.rx_sorted.specs.Ascending.{IsAscending, itself}
use Rattle.rx_sorted.proofs.Kept.{is_ascending-from_fact}
use Rattle.rx_ledger.proofs.Orders.{key_total}
use Rattle.rx_books_family.specs.Shelves.{place_key}
use Rattle.rx_books_shelf.specs.Opened.{full_key_place}
use Rattle.rx_books_shelf.proofs.AllNamed.{all_taken}
use Rattle.rx_books_shelf.proofs.ShelfKept.{ascending_changed}
use Rattle.rx_books_shelf.proofs.placing.key_places.Goals as goal

pub unreachable-requires : goal.unreachable-requires
unreachable-requires c =
    let ks = c.args.keys.now in
    let full = full_key_place c.args.open.now.books in
    let all = c.loop-key.invariant ∙ ap (map full) (all_taken c.loop-key.key-index ks c.loop-key-test.false) in
    let rise : IsAscending key_cmp place_key c.loop-key.places.items =
    subst (IsAscending key_cmp place_key) (sym all) (ascending_changed key_cmp itself place_key full (λ k. refl) ks c.requires) in
    let e : false ≡ true = c.in-Err.ensures.ok ∙ is_ascending-from_fact key_cmp key_total place_key c.loop-key.places.items rise in
    cc
