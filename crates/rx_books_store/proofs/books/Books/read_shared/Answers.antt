use Rattle.std.specs.Arc.{arc_value}
use Rattle.rx_books_store.proofs.BooksFile.{accepted, accepted_again, reads, refused}
use Rattle.rx_books_store.proofs.books.Books.read_shared.Goals as goal

pub returns-clause-ok : goal.returns-clause-ok
returns-clause-ok g c = accepted (arc_value c.args.text.now).items c.shared_or_summed.result c.shared_or_summed.ensures

pub returns-clause-reads : goal.returns-clause-reads
returns-clause-reads g c period L books =
    reads (arc_value c.args.text.now).items c.shared_or_summed.result c.shared_or_summed.ensures period L books

pub returns-clause-refuses : goal.returns-clause-refuses
returns-clause-refuses g c = refused (arc_value c.args.text.now).items c.shared_or_summed.result c.shared_or_summed.ensures

pub returns-clause-again : goal.returns-clause-again
returns-clause-again g c = accepted_again (arc_value c.args.text.now).items c.shared_or_summed.result c.shared_or_summed.ensures
