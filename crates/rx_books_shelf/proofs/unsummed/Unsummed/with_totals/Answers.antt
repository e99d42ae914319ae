use Rattle.rx_books_shelf.proofs.unsummed.Unsummed.with_totals.Goals as goal

pub of_lists-requires-clause-own : goal.of_lists-requires-clause-own
of_lists-requires-clause-own c = c.self.invariant
