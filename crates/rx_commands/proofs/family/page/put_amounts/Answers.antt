use Rattle.rx_commands.specs.FamilyPage.{amount_cell, reached_part, sum_cells}
use Rattle.rx_d0_values.specs.Priced.{patient_pay, total_paid}
use Rattle.rx_print.proofs.Written.{as_text, six}
use Rattle.std.proofs.Common.{ap, codes}
use Rattle.rx_commands.proofs.family.page.put_amounts.Goals as goal

pub returns : goal.returns
unfolding sum_cells
returns c =
    six c.args.page.now c.put_cents.new.page c.put_cents-2.new.page c.put_amount.new.page c.put_amount-2.new.page
    c.put_amount-3.new.page c.put_names.new.page
    (amount_cell (codes "<td><i>Member pays</i>") (patient_pay c.args.claim.now.row.pricing))
    (amount_cell (codes "<td><i>Plan pays</i>") (total_paid c.args.claim.now.row.pricing))
    (amount_cell (codes "<td><i>Deductible</i>") c.args.claim.now.deductible.sum)
    (amount_cell (codes "<td><i>Family deductible</i>") c.args.claim.now.family_deductible.sum)
    (amount_cell (codes "<td><i>Out of pocket</i>") c.args.claim.now.out_of_pocket.sum)
    (reached_part c.args.claim.now)
    (as_text c.args.page.now c.put_cents.new.page
    (ap (amount_cell (codes "<td><i>Member pays</i>")) c.patient_pay.ensures.value) c.put_cents.ensures)
    (as_text c.put_cents.new.page c.put_cents-2.new.page
    (ap (amount_cell (codes "<td><i>Plan pays</i>")) c.total_paid.ensures.value) c.put_cents-2.ensures)
    c.put_amount.ensures
    c.put_amount-2.ensures
    c.put_amount-3.ensures
    c.put_names.ensures
