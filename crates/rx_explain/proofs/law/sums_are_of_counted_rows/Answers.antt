use Rattle.rx_ledger.specs.Sums.{deductible_paid, paid_by_patient}
use Rattle.rx_explain.proofs.Laws.{sum_of_shown, sum_of_shown_person}
use Rattle.rx_explain.proofs.law.sums_are_of_counted_rows.Goals as goal

pub returns-clause-out_of_pocket : goal.returns-clause-out_of_pocket
returns-clause-out_of_pocket c period L family = sum_of_shown period L family paid_by_patient

pub returns-clause-family_deductible : goal.returns-clause-family_deductible
returns-clause-family_deductible c period L family = sum_of_shown period L family deductible_paid

pub returns-clause-deductible : goal.returns-clause-deductible
returns-clause-deductible c period L family person = sum_of_shown_person period L family person
