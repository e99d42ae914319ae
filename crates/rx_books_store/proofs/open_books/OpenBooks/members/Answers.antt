use Rattle.rx_books_store.proofs.open_books.OpenBooks.members.Goals as goal

pub returns-clause-within : goal.returns-clause-within
returns-clause-within c = rw (← c.self.view_is) c.self.invariant.in_order
