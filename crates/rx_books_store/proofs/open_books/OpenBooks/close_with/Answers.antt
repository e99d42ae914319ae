use Rattle.rx_books_family.specs.Shelves.{ShelfParts}
use Rattle.rx_books_family.proofs.Amended.{ledger_amended, values_amended}
use Rattle.rx_books_store.specs.WholeBooks.{beside}
use Rattle.rx_books_store.proofs.open_books.OpenBooks.close_with.Goals as goal

pub returns-clause-values : goal.returns-clause-values
returns-clause-values c =
    let s : ShelfParts = beside c.args.self.books c.args.keys c.args.families in
    λ b. values_amended s c.requires.shelf c.requires.agreed b

pub returns-clause-within : goal.returns-clause-within
returns-clause-within c =
    let s : ShelfParts = beside c.args.self.books c.args.keys c.args.families in
    ledger_amended s c.requires.shelf c.requires.agreed
