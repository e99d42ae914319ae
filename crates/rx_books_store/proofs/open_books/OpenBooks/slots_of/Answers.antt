use Rattle.std.proofs.Common.{[], ◌∷◌, take, arith}
use Rattle.std.proofs.lemmas.List.{take_more}
use Rattle.rayon.proofs.ListFacts.{AllZip-append}
use Rattle.rx_books_store.specs.OpenBooks.{IsSlotOf}
use Rattle.rx_books_store.proofs.open_books.OpenBooks.slots_of.Goals as goal

pub loop-key-preserved : goal.loop-key-preserved
loop-key-preserved c =
    rw (take_more c.args.keys.now c.loop-key.key-index c.key-item.result (omega arith), ← c.key-item.is, c.in_ok-push.ensures.items)
    (AllZip-append (IsSlotOf c.args.self.now) (take c.loop-key.key-index c.args.keys.now) (c.key-item.result ∷ []) c.loop-key.slots.items
    (c.slot_or.result ∷ []) c.loop-key.invariant (c.slot_or.ensures, tt))
