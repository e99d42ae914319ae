-- A run that is done had a stamp; and it is reported as the same exactly where no file differs.
use Rattle.std.proofs.lemmas.Result.{err_from_is_err_and}
use Rattle.rx_switch.specs.Output.IsRefused.{memory}
use Rattle.rx_commands.proofs.Verdicts.{same_outcome}
use Rattle.rx_commands.proofs.verdict.verify.Goals as goal

pub returns-in_err-text-clause-refused : goal.returns-in_err-text-clause-refused
returns-in_err-text-clause-refused g c =
    let p = err_from_is_err_and c.from_residual-in_err-text.result c.from_residual-in_err-text.ensures.1 in
    let output = c.in_ok-verified.ensures.places.output in
    rw (p.1, p.2) (memory output.inputs.stamp output.accepted.stamp)

pub returns-clause-same : goal.returns-clause-same
returns-clause-same g c =
    same_outcome c.in_ok-verified.verified.differences c.outcome_by-outcome.result c.outcome_by-outcome.ensures
    c.in_ok-verified.ensures.same
