use Rattle.rx_books_text.proofs.Fronts.{read_ok, read_refused}
use Rattle.rx_books_text.proofs.Printing.{reads}
use Rattle.rx_books_text.proofs.reader.read_printed.Goals as goal

pub returns-clause-ok : goal.returns-clause-ok
returns-clause-ok c = read_ok c.args.text.now c.read_text.result c.read_text.ensures

pub returns-clause-refuses : goal.returns-clause-refuses
returns-clause-refuses c = read_refused c.args.text.now c.read_text.result c.read_text.ensures

pub returns-clause-reads : goal.returns-clause-reads
returns-clause-reads c p printed text =
    reads c.args.text.now c.read_text.result c.read_text.ensures p printed text
