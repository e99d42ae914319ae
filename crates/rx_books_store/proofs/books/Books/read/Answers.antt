use Rattle.rx_books_store.proofs.BooksFile.{accepted, accepted_again, reads, refused}
use Rattle.rx_books_store.proofs.books.Books.read.Goals as goal

pub returns-clause-ok : goal.returns-clause-ok
returns-clause-ok c = accepted c.args.text.now c.or_summed.result c.or_summed.ensures

pub returns-clause-reads : goal.returns-clause-reads
returns-clause-reads c period L books =
    reads c.args.text.now c.or_summed.result c.or_summed.ensures period L books

pub returns-clause-refuses : goal.returns-clause-refuses
returns-clause-refuses c = refused c.args.text.now c.or_summed.result c.or_summed.ensures

pub returns-clause-again : goal.returns-clause-again
returns-clause-again c = accepted_again c.args.text.now c.or_summed.result c.or_summed.ensures
