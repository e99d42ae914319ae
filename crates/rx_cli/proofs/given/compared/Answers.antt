-- Where the inputs aren't given, nothing is compared.
use Rattle.std.proofs.Common.{List}
use Rattle.clap.specs.Words.{Row, found_of, rows_of}
use Rattle.rx_cli.specs.Asked.{HoldsCompared, HoldsGiven, NoneHolds}
use Rattle.rx_cli.specs.declared.given.ComparedFiles.TheVariants as compared
use Rattle.rx_cli.specs.declared.given.GivenInputs.TheVariants as given
use Rattle.rx_cli.proofs.given.compared.Goals as goal

none_compared : (rows : List Row) → NoneHolds (HoldsGiven rows) → NoneHolds (HoldsCompared rows)
none_compared rows none (compared.OnePlan inputs outputs) holds = none (given.OnePlan inputs) holds.0
none_compared rows none (compared.Plans plans batch response settlement) holds = none (given.Plans plans batch) holds.0

pub returns-in_err-inputs-clause-none : goal.returns-in_err-inputs-clause-none
returns-in_err-inputs-clause-none c =
    rw c.from_residual-in_err-inputs.ensures (none_compared (rows_of (found_of c.args.found.now)) c.in_err-inputs.ensures.none)
