use Rattle.std.proofs.Common.{codes, rules}
use Rattle.clap.specs.Words.{found_of, rows_of}
use Rattle.rx_cli.specs.Asked.{HoldsRoute, MayHaveNumber, NoneHolds}
use Rattle.rx_cli.proofs.switch_options.route.Goals as goal

pub returns-in_err-workers-clause-none : goal.returns-in_err-workers-clause-none
returns-in_err-workers-clause-none c =
    let rows = rows_of (found_of c.args.found.now) in
    let no_number : NoneHolds (MayHaveNumber rows (codes "workers")) = search rules in
    let no_route : NoneHolds (HoldsRoute rows) = λ r h. no_number r.workers h.workers in
    rw c.from_residual-in_err-workers.ensures no_route
