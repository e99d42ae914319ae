use Rattle.std.proofs.Common.{◌≡◌, ◌+◌, ◌<◌, ◌^◌, List, length, subst, ap, ◌∙◌, arith}
use Rattle.std.specs.List.{All, Contains}
use Rattle.rx_fields.specs.Order.{key_cmp}
use Rattle.rx_sorted.specs.Ascending.{IsAscending, put_all}
use Rattle.rx_ledger.specs.Ledger.{Ledger}
use Rattle.rx_books_store.specs.declared.slot.KeySlot.{KeySlot}
use Rattle.rx_books_store.specs.LedgerBooks.{LedgerBooks}
use Rattle.rx_books_store.specs.OpenBooks.{OpenParts}
use Rattle.rx_books_store.specs.Store.{slot_key, slot_keys}
use Rattle.rx_books_store.proofs.Opens.{opened-contains, opened-stands, slots-rise, store-opened}
use Rattle.rx_books_store.proofs.open_books.OpenBooks.opened.Goals as goal

pub merged-requires-clause-under : goal.merged-requires-clause-under
merged-requires-clause-under c =
    slots-rise c.in_ok-fresh.fresh.items (rw c.in_ok-fresh.ensures.keys c.requires)

pub invariant_of-self : goal.invariant_of-self
invariant_of-self c =
    let inside = c.self.inside in
    let fresh : List KeySlot = c.in_ok-fresh.fresh.items in
    let is : c.in_ok-changed.changed ≡ put_all key_cmp slot_key fresh inside.changed =
    rw c.as_slice.ensures.value at c.in_ok-changed.ensures.slots in
    let few : length inside.opening.rows + length c.in_ok-changed.changed < 2 ^ 64 = omega (arith, c.in_ok-fresh.ensures.few, c.in_ok-changed.ensures.few) in
    let few_too : length inside.opening.rows + length (put_all key_cmp slot_key fresh inside.changed) < 2 ^ 64 = rw is at few in
    let rise : IsAscending key_cmp slot_key fresh = slots-rise fresh (rw c.in_ok-fresh.ensures.keys c.requires) in
    rw is (store-opened inside.period inside.opening fresh inside.changed _ _ _ c.self.invariant rise c.in_ok-fresh.ensures.own
    c.in_ok-fresh.ensures.there few_too)

pub returns-clause-same : goal.returns-clause-same
returns-clause-same c =
    let inside = c.self.inside in
    let fresh : List KeySlot = c.in_ok-fresh.fresh.items in
    let is : c.in_ok-changed.changed ≡ put_all key_cmp slot_key fresh inside.changed =
    rw c.as_slice.ensures.value at c.in_ok-changed.ensures.slots in
    let rise : IsAscending key_cmp slot_key fresh = slots-rise fresh (rw c.in_ok-fresh.ensures.keys c.requires) in
    let of_ledger : Ledger → LedgerBooks = λ L. record { period = inside.period; ledger = L } in
    rw is (ap of_ledger (opened-stands inside.period inside.opening fresh inside.changed _ _ _ c.self.invariant rise
    c.in_ok-fresh.ensures.own c.in_ok-fresh.ensures.there) ∙ ap (λ (o : OpenParts). o.books) c.self.view_is)

pub returns-clause-slots : goal.returns-clause-slots
returns-clause-slots c =
    let inside = c.self.inside in
    let fresh : List KeySlot = c.in_ok-fresh.fresh.items in
    let is : c.in_ok-changed.changed ≡ put_all key_cmp slot_key fresh inside.changed =
    rw c.as_slice.ensures.value at c.in_ok-changed.ensures.slots in
    let rise : IsAscending key_cmp slot_key fresh = slots-rise fresh (rw c.in_ok-fresh.ensures.keys c.requires) in
    rw is (subst (All (Contains (slot_keys (put_all key_cmp slot_key fresh inside.changed)))) c.in_ok-fresh.ensures.keys
    (opened-contains inside.period inside.opening fresh inside.changed _ _ _ c.self.invariant rise c.in_ok-fresh.ensures.own
    c.in_ok-fresh.ensures.there))
