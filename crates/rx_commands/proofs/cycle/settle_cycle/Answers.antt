use Rattle.std.proofs.lemmas.Result.{err_from_is_err_and}
use Rattle.rx_commands.specs.Cycle.IsNotSettled.{memory}
use Rattle.rx_commands.proofs.CycleOnce.{is_cycle_text, not_refused, settled_once}
use Rattle.rx_commands.proofs.cycle.settle_cycle.Goals as goal

pub returns-in_err-cycle-clause-reads : goal.returns-in_err-cycle-clause-reads
returns-in_err-cycle-clause-reads c batches each =
    let p = err_from_is_err_and c.from_residual.result c.from_residual.ensures.1 in
    rw (p.1, p.2) (not_refused _ batches c.in_err-cycle.field-0.0 each c.in_err-cycle.ensures.refused)

pub returns-in_err-text-clause-refused : goal.returns-in_err-text-clause-refused
returns-in_err-text-clause-refused c =
    let p = err_from_is_err_and c.from_residual-in_err-text.result c.from_residual-in_err-text.ensures.1 in
    rw (p.1, p.2) memory

pub returns-clause-settled : goal.returns-clause-settled
returns-clause-settled c = is_cycle_text _ _ _ _ _ c.in_ok-cycle.ensures.read c.in_ok-text.ensures

pub returns-clause-reads : goal.returns-clause-reads
returns-clause-reads c batches each =
    settled_once _ batches _ _ each (is_cycle_text _ _ _ _ _ c.in_ok-cycle.ensures.read c.in_ok-text.ensures)
