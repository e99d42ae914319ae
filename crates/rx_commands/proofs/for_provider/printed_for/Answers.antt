-- What is seen of the batch is printed, and then worded for the pharmacy.
use Rattle.std.proofs.lemmas.Result.{err_from_is_err_and}
use Rattle.rx_switch.specs.Planned.IsNotPlanned.{memory}
use Rattle.rx_commands.proofs.for_provider.printed_for.Goals as goal

pub returns-in_err-seen-clause-refused : goal.returns-in_err-seen-clause-refused
returns-in_err-seen-clause-refused c sheet books batch =
    let p = err_from_is_err_and c.from_residual.result c.from_residual.ensures.1 in
    rw (p.1, p.2) memory

pub returns-in_err-whole-clause-refused : goal.returns-in_err-whole-clause-refused
returns-in_err-whole-clause-refused c sheet books batch =
    let p = err_from_is_err_and c.from_residual-in_err-whole.result c.from_residual-in_err-whole.ensures.1 in
    rw (p.1, p.2) (c.in_err-whole.ensures.refused sheet books batch)

pub returns-in_err-printed-clause-refused : goal.returns-in_err-printed-clause-refused
returns-in_err-printed-clause-refused c sheet books batch =
    let p = err_from_is_err_and c.from_residual-in_err-printed.result c.from_residual-in_err-printed.ensures.1 in
    rw (p.1, p.2) memory

pub returns-clause-printed : goal.returns-clause-printed
returns-clause-printed c = record {
  seen = c.in_ok-seen.seen;
  seen_is = c.in_ok-seen.ensures;
  whole = c.in_ok-whole.whole;
  printed = c.in_ok-whole.ensures.printed;
  worded = c.in_ok-printed.ensures;
}
