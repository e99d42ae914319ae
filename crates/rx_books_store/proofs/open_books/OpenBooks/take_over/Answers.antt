use Rattle.std.proofs.Common.{◌≡◌, [], ◌∷◌, ◌++◌, ◌+◌, take, sym, subst, ap, ◌∙◌, arith}
use Rattle.std.specs.List.{Contains}
use Rattle.std.proofs.lemmas.List.{take_more}
use Rattle.rx_ledger.specs.Ledger.{row_under}
use Rattle.rx_books_store.specs.OpenBooks.{HasTaken, open_over}
use Rattle.rx_books_store.proofs.Taken.{one_taken}
use Rattle.rx_books_store.proofs.open_books.OpenBooks.take_over.Goals as goal

pub take_slot-requires-clause-slot : goal.take_slot-requires-clause-slot
take_slot-requires-clause-slot c =
    let k = c.index-keys-at.result in
    let among : Contains c.args.self.now.slots k = subst (Contains c.args.self.now.slots) (sym c.index-keys-at.is)
    (c.requires.slots c.loop-at.at k (omega arith)) in
    subst (Contains c.loop-at.self.slots) (sym c.slot_under.ensures.key)
    (subst (λ ks. Contains ks k) (sym c.loop-at.invariant.slots) among)

pub loop-at-preserved : goal.loop-at-preserved
loop-at-preserved c =
    let s = c.slot_under.result in
    let keys = c.args.keys.now in
    let i = c.loop-at.at in
    let from = c.args.from.now.books.ledger in
    let there = ap (row_under from) c.slot_under.ensures.key ∙ c.slot_under.ensures.there in
    let more = one_taken c.args.self.now c.loop-at.self from (take i keys) s c.loop-at.invariant c.slot_under.ensures.own.under there in
    let so_many : take i keys ++ s.key ∷ [] ≡ take (i + 1) keys =
    ap (λ k. take i keys ++ k ∷ []) c.slot_under.ensures.key
    ∙ sym (take_more keys i c.index-keys-at.result (omega arith)
    ∙ ap (λ k. take i keys ++ k ∷ []) (sym c.index-keys-at.is)) in
    subst (HasTaken c.args.self.now from (take (i + 1) keys)) (sym c.take_slot.ensures)
    (subst (λ ks. HasTaken c.args.self.now from ks (open_over c.loop-at.self s)) so_many more)
