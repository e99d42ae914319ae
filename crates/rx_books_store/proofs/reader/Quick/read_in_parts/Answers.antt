use Rattle.std.proofs.Common.{◌≡◌, [], sym, ap, subst, ◌∙◌}
use Rattle.rx_ledger.specs.Ledger.{IsLedger}
use Rattle.rx_books_store.specs.LedgerBooks.{LedgerBooks}
use Rattle.rx_books_store.specs.OpenBooks.{OpenParts}
use Rattle.rx_books_store.proofs.KeptLines.{if_made, quick-opened}
use Rattle.rx_books_store.proofs.reader.Quick.read_in_parts.Goals as goal

pub of_books-requires : goal.of_books-requires
of_books-requires g c =
    let opening = c.in_ok-opening.opening in
    let books = if_made (λ (b : OpenParts). b.books ≡ record { period = c.in_ok-opening.head.period; ledger = opening })
    c.added_up_in_parts.result c.in_ok-books.books c.in_ok-books.ensures.value c.added_up_in_parts.ensures.books in
    subst IsLedger (sym (ap (λ (b : LedgerBooks). b.ledger) books)) c.in_ok-opening.ensures.in_order

pub returns : goal.returns
returns g c =
    let opening = c.in_ok-opening.opening in
    let books = if_made (λ (b : OpenParts). b.books ≡ record { period = c.in_ok-opening.head.period; ledger = opening })
    c.added_up_in_parts.result c.in_ok-books.books c.in_ok-books.ensures.value c.added_up_in_parts.ensures.books in
    let none = if_made (λ (b : OpenParts). b.slots ≡ []) c.added_up_in_parts.result c.in_ok-books.books
    c.in_ok-books.ensures.value c.added_up_in_parts.ensures.slots in
    quick-opened c.args.text.now c.in_ok-lists.lists opening c.in_ok-opening.head c.in_ok-opening.rest
    c.in_ok-books.books c.of_books.result c.in_ok-lists.ensures.lists c.in_ok-lists.ensures.measured
    c.in_ok-opening.ensures.opening c.in_ok-opening.ensures.head c.in_ok-opening.ensures.rest books none
    c.of_books.ensures.made c.of_books.ensures.sums
