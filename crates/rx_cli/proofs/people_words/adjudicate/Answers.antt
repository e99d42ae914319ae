use Rattle.std.proofs.Common.{codes, rules}
use Rattle.clap.specs.Words.{found_of, rows_of}
use Rattle.rx_cli.specs.Asked.{HoldsAdjudicate, MayHaveNumber, NoneHolds}
use Rattle.rx_cli.proofs.people_words.adjudicate.Goals as goal

pub returns-in_err-workers-clause-none : goal.returns-in_err-workers-clause-none
returns-in_err-workers-clause-none c =
    let rows = rows_of (found_of c.args.found.now) in
    let no_number : NoneHolds (MayHaveNumber rows (codes "workers")) = search rules in
    let none : NoneHolds (HoldsAdjudicate rows) = λ a h. no_number a.workers h.workers in
    rw c.from_residual-in_err-workers.ensures none
