use Rattle.rx_books_store.proofs.BooksFile.{accepted, accepted_again, reads, refused}
use Rattle.rx_books_store.proofs.books.Books.read_kept.Goals as goal

pub returns-clause-ok : goal.returns-clause-ok
returns-clause-ok g c = accepted c.args.text.items c.kept_or_summed.result c.kept_or_summed.ensures

pub returns-clause-reads : goal.returns-clause-reads
returns-clause-reads g c period L books =
    reads c.args.text.items c.kept_or_summed.result c.kept_or_summed.ensures period L books

pub returns-clause-refuses : goal.returns-clause-refuses
returns-clause-refuses g c = refused c.args.text.items c.kept_or_summed.result c.kept_or_summed.ensures

pub returns-clause-again : goal.returns-clause-again
returns-clause-again g c = accepted_again c.args.text.items c.kept_or_summed.result c.kept_or_summed.ensures
