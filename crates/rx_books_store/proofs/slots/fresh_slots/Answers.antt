use Rattle.std.proofs.Common.{◌≡◌, List, [], ◌∷◌, ◌++◌, length, take, sym, ap, ◌∙◌, arith}
use Rattle.std.proofs.lemmas.List.{map-append, take_more}
use Rattle.std.proofs.lemmas.List.Elements.{All-append, All-cons, All-nil}
use Rattle.rx_ledger.specs.Ledger.{row_under}
use Rattle.rx_books_store.specs.declared.slot.KeySlot.{KeySlot}
use Rattle.rx_books_store.specs.Store.{IsSlot, slot_key, slot_keys}
use Rattle.rx_books_store.proofs.slots.fresh_slots.Goals as goal

pub loop-key-preserved : goal.loop-key-preserved
loop-key-preserved c =
    let s : KeySlot = c.fresh_slot-key.result in
    let before : List KeySlot = c.loop-key.slots.items in
    let keys = c.args.keys.now in
    let i = c.loop-key.key-index in
    let Own : KeySlot → Type 0 = IsSlot c.args.opening.now.members in
    let There : KeySlot → Type 0 = λ t. row_under c.args.opening.now t.key ≡ t.held in
    let there : There s = ap (row_under c.args.opening.now) c.fresh_slot-key.ensures.key ∙ c.fresh_slot-key.ensures.there in
    let items : c.push.new.self.items ≡ before ++ s ∷ [] = c.in_ok-push.ensures.items in
    record {
      keys = ap slot_keys items ∙ map-append slot_key before (s ∷ [])
          ∙ ap (λ ks. ks ++ s.key ∷ []) c.loop-key.invariant.keys
          ∙ ap (λ k. take i keys ++ k ∷ []) (c.fresh_slot-key.ensures.key ∙ c.key-item.is)
          ∙ sym (take_more keys i c.key-item.result c.loop-key-test.true);
      own = rw items (All-append Own before (s ∷ []) c.loop-key.invariant.own
          (All-cons Own s [] c.fresh_slot-key.ensures.own (All-nil Own)));
      there = rw items (All-append There before (s ∷ []) c.loop-key.invariant.there (All-cons There s [] there (All-nil There)));
    }

pub returns-clause-few : goal.returns-clause-few
returns-clause-few c = omega (arith, c.len-len.ensures.small, c.len-len.ensures.value, ap length c.rows-rows.ensures.value)
