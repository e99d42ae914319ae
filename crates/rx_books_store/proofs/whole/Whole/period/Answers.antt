use Rattle.rx_books_family.specs.Shelves.{ShelfParts}
use Rattle.rx_books_family.proofs.Amended.{ledger_amended}
use Rattle.rx_books_store.specs.WholeBooks.{beside}
use Rattle.rx_books_store.proofs.whole.Whole.period.Goals as goal

pub returns-clause-within : goal.returns-clause-within
returns-clause-within c =
    let s : ShelfParts = beside c.self.inside.books.now.books c.self.inside.keys.now c.self.inside.families.now in
    rw (← c.self.view_is) (ledger_amended s c.self.invariant.shelf c.self.invariant.agreed)
