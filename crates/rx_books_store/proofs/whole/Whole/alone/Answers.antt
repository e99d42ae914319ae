use Rattle.std.proofs.Common.{◌∙◌}
use Rattle.rx_books_family.proofs.Amended.{alone_is, amended_alone}
use Rattle.rx_books_store.specs.LedgerBooks.{LedgerBooks}
use Rattle.rx_books_store.proofs.whole.Whole.alone.Goals as goal

pub of-requires : goal.of-requires
of-requires c =
    let b : LedgerBooks = c.args.books.now.books in
    alone_is b.period b.ledger c.requires

pub returns : goal.returns
returns c =
    let b : LedgerBooks = c.args.books.now.books in
    let same = amended_alone b.period b.ledger c.requires in
    c.of.ensures ∙ (λ i. record { period = b.period; ledger = same i })
