use Rattle.std.proofs.Common.{◌∙◌}
use Rattle.rx_ledger.specs.Sums.{counted, deductible_paid, paid_by_patient}
use Rattle.rx_diagnostics.proofs.Totals.{summed}
use Rattle.rx_diagnostics.proofs.books_totals.family_sums.Goals as goal

pub returns-clause-out_of_pocket : goal.returns-clause-out_of_pocket
returns-clause-out_of_pocket c =
    let p = c.args.printed.now in
    c.sums_of.ensures.out_of_pocket ∙ rw (c.head.ensures, c.rows.ensures.value, c.ledger.ensures)
    (summed c.args.family.now (counted p.head.period paid_by_patient) p.ledger.rows)

pub returns-clause-deductible : goal.returns-clause-deductible
returns-clause-deductible c =
    let p = c.args.printed.now in
    c.sums_of.ensures.deductible ∙ rw (c.head.ensures, c.rows.ensures.value, c.ledger.ensures)
    (summed c.args.family.now (counted p.head.period deductible_paid) p.ledger.rows)
