use Rattle.rx_books_store.proofs.Stored.{get-slot_key}
use Rattle.rx_books_store.proofs.open_books.OpenBooks.slot_near.Goals as goal

pub returns-then-is_slot_at-clause-found : goal.returns-then-is_slot_at-clause-found
returns-then-is_slot_at-clause-found c =
    let at = rw c.as_slice.ensures.value at (c.is_slot_at.ensures c.if-is_slot_at.true) in
    rw (← c.self.view_is) (get-slot_key _ _ _ at)
