use Rattle.std.proofs.Common.{◌++◌, ap, ◌∙◌}
use Rattle.rx_books_store.specs.BooksText.{above_text}
use Rattle.rx_books_store.proofs.KeptText.{books_text-put}
use Rattle.rx_books_store.proofs.open_books.OpenBooks.rendered.Goals as goal

pub returns : goal.returns
returns c =
    let b = c.args.self.now.books in
    books_text-put b.period b.ledger c.put_above.new.text.items c.put_claims.new.text.items c.put_below.new.text.items
    (c.in_ok-put_above.ensures ∙ ap (λ t. t ++ above_text b.period b.ledger) c.in_ok-text.ensures.items)
    c.in_ok-put_claims.ensures c.in_ok-put_below.ensures
