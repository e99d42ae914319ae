-- What a reader refuses is refused.
use Rattle.std.proofs.lemmas.Result.{err_from_is_err_and}
use Rattle.rx_switch.proofs.Unplanned.{batch_not_planned, books_not_planned, sheet_not_planned}
use Rattle.rx_commands.proofs.inputs.read_inputs.Goals as goal

pub returns-in_err-sheet-clause-refused : goal.returns-in_err-sheet-clause-refused
returns-in_err-sheet-clause-refused c =
    let p = err_from_is_err_and c.from_residual.result c.from_residual.ensures.1 in
    rw (p.1, p.2) (sheet_not_planned c.args.texts.now.sheet.now c.args.texts.now.books.now c.args.texts.now.batch.now c.in_err-sheet.field-0.0
    c.in_err-sheet.ensures)

pub returns-in_err-books-clause-refused : goal.returns-in_err-books-clause-refused
returns-in_err-books-clause-refused c =
    let p = err_from_is_err_and c.from_residual-in_err-books.result c.from_residual-in_err-books.ensures.1 in
    rw (p.1, p.2) (books_not_planned c.args.texts.now.sheet.now c.args.texts.now.books.now c.args.texts.now.batch.now c.in_ok-sheet.sheet
    c.in_ok-sheet.ensures c.in_err-books.field-0.0 c.in_err-books.ensures.refuses)

pub returns-in_err-batch-clause-refused : goal.returns-in_err-batch-clause-refused
returns-in_err-batch-clause-refused c =
    let p = err_from_is_err_and c.from_residual-in_err-batch.result c.from_residual-in_err-batch.ensures.1 in
    rw (p.1, p.2) (batch_not_planned c.args.texts.now.sheet.now c.args.texts.now.books.now c.args.texts.now.batch.now c.in_ok-sheet.sheet
    c.in_ok-sheet.ensures c.in_ok-books.books.period c.in_ok-books.books.ledger c.in_ok-books.ensures.ok
    c.in_err-batch.field-0.0 c.in_err-batch.ensures.refuses)
