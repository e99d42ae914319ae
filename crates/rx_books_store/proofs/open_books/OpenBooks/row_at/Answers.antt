use Rattle.rx_books_store.proofs.Stored.{held-read}
use Rattle.rx_books_store.proofs.open_books.OpenBooks.row_at.Goals as goal

pub returns : goal.returns
returns c = rw (← c.self.view_is) (held-read _ _ _ _ _ _ c.self.invariant c.args.slot _ c.held_at.ensures)
