use Rattle.std.proofs.Common.{◌≡◌, ◌||◌, ◌++◌, refl, ap, ◌∙◌}
use Rattle.rx_fields.specs.Order.{id_cmp, key_cmp}
use Rattle.rx_ledger.proofs.Orders.{id_exact, id_total, key_exact, key_total}
use Rattle.rx_schedule.specs.Billed.{has_family}
use Rattle.rx_schedule.specs.Footprints.{families_in, in_order, keys_in}
use Rattle.rx_schedule.proofs.InOrder.{IsAscending-in_order, same_in_order}
use Rattle.rx_schedule.proofs.naming.footprint.Goals as goal

pub put_in_order-requires : goal.put_in_order-requires
put_in_order-requires c = key_exact

pub put_in_order-requires-2 : goal.put_in_order-requires-2
put_in_order-requires-2 c = id_exact

pub made_of-requires-clause-keys : goal.made_of-requires-clause-keys
made_of-requires-clause-keys c = rw c.put_in_order.ensures (IsAscending-in_order key_cmp key_total key_exact c.name_books.new.keys.items)

pub made_of-requires-clause-families : goal.made_of-requires-clause-families
made_of-requires-clause-families c = rw c.put_in_order-2.ensures
    (IsAscending-in_order id_cmp id_total id_exact c.name_books.new.families.items)

pub returns : goal.returns
returns c = λ earlier has.
    let body = c.args.transmission.now.body in
    let L = c.args.books.now.ledger in
    let keys : c.put_in_order.new.items.items ≡ in_order key_cmp (keys_in body) =
    c.put_in_order.ensures ∙ ap (in_order key_cmp)
    (c.in_ok-name_books.ensures.keys ∙ ap (λ ks. ks ++ keys_in body) c.new-keys.ensures.items) in
    let families : c.put_in_order-2.new.items.items ≡ in_order id_cmp (families_in L earlier body) =
    c.put_in_order-2.ensures ∙ same_in_order id_cmp id_total id_exact c.name_books.new.families.items (families_in L earlier body)
    (λ f. c.in_ok-name_books.ensures.families earlier has f
    ∙ ap (λ fs. has_family fs f || has_family (families_in L earlier body) f) c.new-families.ensures.items) in
    c.made_of.ensures ∙ rw (keys, families) refl
