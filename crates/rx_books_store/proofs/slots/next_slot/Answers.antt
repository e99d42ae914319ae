use Rattle.std.proofs.Common.{◌≡◌, ◌<◌, ◌≤◌, length, sym, ◌∙◌}
use Rattle.std.specs.declared.cmp.Ordering.TheVariants.{Less, Equal, Greater}
use Rattle.std.proofs.lemmas.Bool.{ltb-false, ltb-true}
use Rattle.rx_fields.specs.Order.{key_cmp}
use Rattle.rx_ledger.proofs.Orders.{key_total}
use Rattle.rx_books_store.specs.Store.{slot_key}
use Rattle.rx_books_store.proofs.Merging.{left-equal, left-greater, left-less, left-second}
use Rattle.rx_books_store.proofs.slots.next_slot.Goals as goal

pub returns-in-None-Some-clause-next : goal.returns-in-None-Some-clause-next
returns-in-None-Some-clause-next c =
    let past : length c.args.under.now ≤ c.args.low = ltb-false _ _ (sym c.in-None-Some.ensures.lookup.0) in
    let lt : c.args.high < length c.args.over.now = ltb-true _ _ (sym c.in-None-Some.ensures'.lookup.0) in
    left-second key_cmp key_total slot_key c.args.under.now c.args.over.now c.requires.under c.requires.over c.args.low
    c.args.high c.in-None-Some.slot.now lt c.in-None-Some.ensures'.lookup.1 past

pub returns-in-Less-clause-next : goal.returns-in-Less-clause-next
returns-in-Less-clause-next c =
    let lt : c.args.low < length c.args.under.now = ltb-true _ _ (sym c.in-Some-Some.ensures.lookup.0) in
    let lt_too : c.args.high < length c.args.over.now = ltb-true _ _ (sym c.in-Some-Some.ensures'.lookup.0) in
    let order : key_cmp c.in-Some-Some.first.now.key c.in-Some-Some.second.now.key ≡ Less = sym c.cmp.ensures ∙ c.in-Less.is in
    left-less key_cmp key_total slot_key c.args.under.now c.args.over.now c.requires.under c.requires.over c.args.low
    c.args.high c.in-Some-Some.first.now c.in-Some-Some.second.now lt c.in-Some-Some.ensures.lookup.1 lt_too
    c.in-Some-Some.ensures'.lookup.1 order

pub returns-in-Equal-clause-next : goal.returns-in-Equal-clause-next
returns-in-Equal-clause-next c =
    let lt : c.args.low < length c.args.under.now = ltb-true _ _ (sym c.in-Some-Some.ensures.lookup.0) in
    let lt_too : c.args.high < length c.args.over.now = ltb-true _ _ (sym c.in-Some-Some.ensures'.lookup.0) in
    let order : key_cmp c.in-Some-Some.first.now.key c.in-Some-Some.second.now.key ≡ Equal = sym c.cmp.ensures ∙ c.in-Equal.is in
    left-equal key_cmp key_total slot_key c.args.under.now c.args.over.now c.requires.under c.requires.over c.args.low
    c.args.high c.in-Some-Some.first.now c.in-Some-Some.second.now lt c.in-Some-Some.ensures.lookup.1 lt_too
    c.in-Some-Some.ensures'.lookup.1 order

pub returns-in-Greater-clause-next : goal.returns-in-Greater-clause-next
returns-in-Greater-clause-next c =
    let lt : c.args.low < length c.args.under.now = ltb-true _ _ (sym c.in-Some-Some.ensures.lookup.0) in
    let lt_too : c.args.high < length c.args.over.now = ltb-true _ _ (sym c.in-Some-Some.ensures'.lookup.0) in
    let order : key_cmp c.in-Some-Some.first.now.key c.in-Some-Some.second.now.key ≡ Greater =
    sym c.cmp.ensures ∙ c.in-Greater.is in
    left-greater key_cmp key_total slot_key c.args.under.now c.args.over.now c.requires.under c.requires.over c.args.low
    c.args.high c.in-Some-Some.first.now c.in-Some-Some.second.now lt c.in-Some-Some.ensures.lookup.1 lt_too
    c.in-Some-Some.ensures'.lookup.1 order
