use Rattle.std.proofs.Common.{ap}
use Rattle.rx_books_family.specs.Shelves.{AreAllAgreed, ShelfParts, value_of}
use Rattle.rx_books_store.specs.LedgerBooks.{LedgerBooks}
use Rattle.rx_books_shelf.proofs.ShelfKept.{shelf_parts}
use Rattle.rx_books_shelf.proofs.shelf.Shelf.amended.Goals as goal

pub close_with-requires : goal.close_with-requires
close_with-requires c =
    let s : ShelfParts = shelf_parts c.self.inside.books.books c.self.inside.keys c.self.inside.families in
    let agreed : AreAllAgreed (value_of s) = rw (← c.self.view_is) at c.requires in
    record { shelf = c.self.invariant.0; agreed = agreed }

pub returns-clause-period : goal.returns-clause-period
returns-clause-period c = rw (← c.self.view_is) (ap (λ (b : LedgerBooks). b.period) c.close_with.ensures.books)

pub returns-clause-values : goal.returns-clause-values
returns-clause-values c = rw (← c.self.view_is) c.close_with.ensures.values
