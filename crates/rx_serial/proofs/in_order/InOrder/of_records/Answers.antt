-- What the records name has a slot.
use Rattle.std.proofs.Common.{◌≡◌, List, map, subst, sym, ◌∙◌}
use Rattle.std.specs.Prelude.{◌↔◌}
use Rattle.std.specs.List.{All, Contains}
use Rattle.std.proofs.lemmas.Result.{IfOk-weaker}
use Rattle.rx_fields.specs.declared.key.Key.{Key}
use Rattle.rx_serial.specs.Named.{keys_named}
use Rattle.rx_serial.specs.Underway.{IsAwaited, Underway}
use Rattle.rx_serial.proofs.Awaited.{all_awaited}
use Rattle.rx_serial.proofs.in_order.InOrder.of_records.Goals as goal

pub over-requires-clause-slots : goal.over-requires-clause-slots
over-requires-clause-slots c = rw c.deref.ensures.value at c.in_ok-books.ensures.slots

pub returns-clause-same : goal.returns-clause-same
returns-clause-same c =
    IfOk-weaker c.over.result (λ o. o.books ≡ c.in_ok-books.books.books) (λ o. o.books ≡ c.args.books)
    (λ o is. is ∙ c.in_ok-books.ensures.same) c.over.ensures.same

pub returns-clause-awaited : goal.returns-clause-awaited
returns-clause-awaited c =
    let records = c.args.records.now in
    let keys = c.in_ok-names.names.keys.items in
    IfOk-weaker c.over.result (λ o. o.keys ≡ keys) (λ (o : Underway). All (λ t. IsAwaited o t.now) records)
    (λ o is. all_awaited o (λ t. t.now) records
    (λ k there. subst (λ (ks : List Key). Contains ks k) (sym is) ((c.in_ok-names.ensures.keys k).1 there)))
    c.over.ensures.keys

pub returns-clause-keys : goal.returns-clause-keys
returns-clause-keys c =
    let named = keys_named (map (λ t. t.now) c.args.records.now) in
    IfOk-weaker c.over.result (λ o. o.keys ≡ c.in_ok-names.names.keys.items)
    (λ (o : Underway). (key : Key) → Contains o.keys key ↔ Contains named key)
    (λ o is key. subst (λ (ks : List Key). Contains ks key ↔ Contains named key) (sym is) (c.in_ok-names.ensures.keys key))
    c.over.ensures.keys
