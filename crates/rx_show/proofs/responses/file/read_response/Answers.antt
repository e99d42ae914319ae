use Rattle.std.proofs.lemmas.Result.{err_from_is_err_and}
use Rattle.rx_show.proofs.ResponseFile.{asked_is_read, asked_is_response, fault_is_of_batch, fault_is_read}
use Rattle.rx_show.proofs.responses.file.read_response.Goals as goal

pub returns-in_err-head-clause-reads : goal.returns-in_err-head-clause-reads
returns-in_err-head-clause-reads c =
    let p = err_from_is_err_and c.from_residual.result c.from_residual.ensures.1 in
    rw (p.1, p.2)
    (λ batch file. fault_is_read c.args.bytes.now c.in_err-head.field-0.0 batch c.in_err-head.ensures file)

pub returns-in_err-head-clause-refuses : goal.returns-in_err-head-clause-refuses
returns-in_err-head-clause-refuses c =
    let p = err_from_is_err_and c.from_residual.result c.from_residual.ensures.1 in
    rw (p.1, p.2) (fault_is_of_batch c.args.bytes.now c.in_err-head.field-0.0 c.in_err-head.ensures)

pub returns-clause-ok : goal.returns-clause-ok
returns-clause-ok c = asked_is_response c.args.bytes.now c.in_ok-head.field-0 c.in_ok-head.ensures

pub returns-clause-reads : goal.returns-clause-reads
returns-clause-reads c batch file = asked_is_read c.args.bytes.now c.in_ok-head.field-0 batch c.in_ok-head.ensures file
