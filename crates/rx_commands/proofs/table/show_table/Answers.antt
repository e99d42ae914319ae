use Rattle.std.proofs.lemmas.Result.{err_from_is_err_and}
use Rattle.rx_switch.specs.Shown.IsNotShown.{memory}
use Rattle.rx_switch.proofs.Refusals.{batch_not_shown, sheet_not_shown}
use Rattle.rx_commands.proofs.table.show_table.Goals as goal

pub returns-in_err-sheet-clause-refused : goal.returns-in_err-sheet-clause-refused
returns-in_err-sheet-clause-refused g c =
    let p = err_from_is_err_and c.from_residual.result c.from_residual.ensures.1 in
    rw (p.1, p.2) (sheet_not_shown c.args.sheet.now c.args.batch.now c.in_err-sheet.field-0.0 c.in_err-sheet.ensures)

pub returns-in_err-batch-clause-refused : goal.returns-in_err-batch-clause-refused
returns-in_err-batch-clause-refused g c =
    let p = err_from_is_err_and c.from_residual-in_err-batch.result c.from_residual-in_err-batch.ensures.1 in
    rw (p.1, p.2)
    (batch_not_shown c.args.sheet.now c.args.batch.now c.in_ok-sheet.sheet c.in_ok-sheet.ensures
    c.in_err-batch.field-0.0 c.in_err-batch.ensures.refuses)

pub returns-in_err-asked-clause-refused : goal.returns-in_err-asked-clause-refused
returns-in_err-asked-clause-refused g c =
    let p = err_from_is_err_and c.from_residual-in_err-asked.result c.from_residual-in_err-asked.ensures.1 in
    rw (p.1, p.2) memory

pub returns-in_err-text-clause-refused : goal.returns-in_err-text-clause-refused
returns-in_err-text-clause-refused g c =
    let p = err_from_is_err_and c.from_residual-in_err-text.result c.from_residual-in_err-text.ensures.1 in
    rw (p.1, p.2) memory
