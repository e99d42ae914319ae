use Rattle.std.proofs.Common.{codes, rules}
use Rattle.clap.specs.Words.{found_of, rows_of}
use Rattle.rx_cli.specs.Asked.{HasNumberOr, HoldsVerify, NoneHolds}
use Rattle.rx_cli.proofs.retrace_options.verify.Goals as goal

pub returns-in_err-workers-clause-none : goal.returns-in_err-workers-clause-none
returns-in_err-workers-clause-none c =
    let rows = rows_of (found_of c.args.found.now) in
    let no_number : NoneHolds (HasNumberOr rows (codes "workers") 1) = search rules in
    let no_verify : NoneHolds (HoldsVerify rows) = λ v h. no_number v.workers h.workers in
    rw c.from_residual-in_err-workers.ensures no_verify
