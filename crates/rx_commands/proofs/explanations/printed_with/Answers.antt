use Rattle.std.proofs.lemmas.Result.{err_from_is_err_and}
use Rattle.rx_switch.specs.Planned.IsNotPlanned.{memory}
use Rattle.rx_commands.proofs.NoResponse.{no_response}
use Rattle.rx_commands.proofs.explanations.printed_with.Goals as goal

pub returns-in_err-response-clause-refused : goal.returns-in_err-response-clause-refused
returns-in_err-response-clause-refused c sheet books batch =
    let p = err_from_is_err_and c.from_residual.result c.from_residual.ensures.1 in
    rw (p.1, p.2)
    (no_response sheet books batch c.args.bytes.now c.in_err-response.field-0.0 c.in_err-response.ensures.refuses)

pub returns-in_err-printed-clause-refused : goal.returns-in_err-printed-clause-refused
returns-in_err-printed-clause-refused c sheet books batch =
    let p = err_from_is_err_and c.from_residual-in_err-printed.result c.from_residual-in_err-printed.ensures.1 in
    rw (p.1, p.2) memory
