use Rattle.rx_books_store.proofs.Stored.{get-slot_key, no-slot_key}
use Rattle.rx_books_store.proofs.open_books.OpenBooks.slot_of.Goals as goal

pub returns-in-Ok-clause-found : goal.returns-in-Ok-clause-found
returns-in-Ok-clause-found c = rw (← c.self.view_is) (get-slot_key _ _ _ c.in-Ok.ensures.found)

pub returns-in-Err-clause-absent : goal.returns-in-Err-clause-absent
returns-in-Err-clause-absent c = rw (← c.self.view_is) (no-slot_key _ _ _ c.in-Err.ensures.absent)
