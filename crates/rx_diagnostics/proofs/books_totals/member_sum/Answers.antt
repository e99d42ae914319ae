use Rattle.std.proofs.Common.{◌∙◌}
use Rattle.rx_ledger.specs.Sums.{counted, persons_deductible_paid}
use Rattle.rx_diagnostics.proofs.Totals.{summed}
use Rattle.rx_diagnostics.proofs.books_totals.member_sum.Goals as goal

pub returns : goal.returns
returns c =
    let p = c.args.printed.now in
    c.sum_of.ensures ∙ rw (c.head.ensures, c.rows.ensures.value, c.ledger.ensures)
    (summed c.args.family.now (counted p.head.period (persons_deductible_paid c.args.person.now)) p.ledger.rows)
