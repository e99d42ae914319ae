use Rattle.std.proofs.Common.{refl}
use Rattle.std.proofs.lemmas.Result.{err_from_is_err_and}
use Rattle.rx_commands.proofs.ExcerptTop.{no_books, no_sheet}
use Rattle.rx_commands.proofs.excerpts.texts_of.Goals as goal

pub returns-in_err-sheet-clause-refused : goal.returns-in_err-sheet-clause-refused
returns-in_err-sheet-clause-refused c =
    let p = err_from_is_err_and c.from_residual.result c.from_residual.ensures.1 in
    rw (p.1, p.2)
    (no_sheet c.args.job.now.sheet.now.figures.period c.args.ledger.now c.in_err-sheet.field-0.0 c.in_err-sheet.ensures.refused)

pub returns-in_err-books-clause-refused : goal.returns-in_err-books-clause-refused
returns-in_err-books-clause-refused c =
    let p = err_from_is_err_and c.from_residual-in_err-books.result c.from_residual-in_err-books.ensures.1 in
    rw (p.1, p.2)
    (no_books c.args.job.now.sheet.now.figures.period c.args.ledger.now c.in_err-books.field-0.0
    (rw c.period.ensures at c.in_err-books.ensures.refused))

pub returns-in_err-batch-clause-refused : goal.returns-in_err-batch-clause-refused
returns-in_err-batch-clause-refused c =
    let p = err_from_is_err_and c.from_residual-in_err-batch.result c.from_residual-in_err-batch.ensures.1 in
    rw (p.1, p.2) refl

pub returns-clause-books : goal.returns-clause-books
returns-clause-books c = rw c.period.ensures at c.in_ok-books.ensures.text
