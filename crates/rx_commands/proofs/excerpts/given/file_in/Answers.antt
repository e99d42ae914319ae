use Rattle.std.proofs.lemmas.Result.{err_from_is_err_and}
use Rattle.rx_commands.proofs.NoResponse.{no_response}
use Rattle.rx_commands.proofs.excerpts.given.file_in.Goals as goal

pub returns-in_err-file-clause-refused : goal.returns-in_err-file-clause-refused
returns-in_err-file-clause-refused c sheet books batch =
    let p = err_from_is_err_and c.from_residual.result c.from_residual.ensures.1 in
    rw (p.1, p.2)
    (no_response sheet books batch c.args.bytes.now c.in_err-file.field-0.0 c.in_err-file.ensures.refuses)
