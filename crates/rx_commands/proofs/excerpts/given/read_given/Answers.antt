use Rattle.std.proofs.lemmas.Result.{err_from_is_err_and}
use Rattle.rx_commands.proofs.excerpts.given.read_given.Goals as goal

pub returns-in_err-read-clause-refused : goal.returns-in_err-read-clause-refused
returns-in_err-read-clause-refused c =
    let p = err_from_is_err_and c.from_residual.result c.from_residual.ensures.1 in
    rw (p.1, p.2) c.in_err-read.ensures.refused

pub returns-in-Ok-clause-sheet : goal.returns-in-Ok-clause-sheet
returns-in-Ok-clause-sheet c = rw c.with_file.ensures c.in_ok-read.ensures.sheet

pub returns-in-Ok-clause-books : goal.returns-in-Ok-clause-books
returns-in-Ok-clause-books c = rw c.with_file.ensures c.in_ok-read.ensures.books

pub returns-in-Ok-clause-batch : goal.returns-in-Ok-clause-batch
returns-in-Ok-clause-batch c = rw c.with_file.ensures c.in_ok-read.ensures.batch

pub returns-in-Ok-clause-file : goal.returns-in-Ok-clause-file
returns-in-Ok-clause-file c = rw c.with_file.ensures c.in-Ok.ensures.ok

pub returns-in-Err-clause-refused : goal.returns-in-Err-clause-refused
returns-in-Err-clause-refused c =
    let given = c.args.inputs.now in
    c.in-Err.ensures.refused given.sheet.now given.books.now given.batch.now
