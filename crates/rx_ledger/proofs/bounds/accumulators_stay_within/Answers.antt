use Rattle.rx_ledger.proofs.Within.{family_bounded, member_bounded, pocket_bounded, stays_within}
use Rattle.rx_ledger.specs.Sums.{deductible_paid, paid_by_patient, persons_deductible_paid}
use Rattle.rx_ledger.proofs.bounds.accumulators_stay_within.Goals as goal

pub returns-clause-family : goal.returns-clause-family
returns-clause-family c lot plan place ts L is family = stays_within lot plan paid_by_patient plan.figures.family_maximum
    (pocket_bounded plan.figures) family place ts L is.rows_rise

pub returns-clause-member : goal.returns-clause-member
returns-clause-member c lot plan place ts L is family person = stays_within lot plan (persons_deductible_paid person)
    plan.figures.member_deductible (member_bounded plan.figures person) family place ts L is.rows_rise

pub returns-clause-together : goal.returns-clause-together
returns-clause-together c lot plan place ts L is family limit there = stays_within lot plan deductible_paid limit
    (family_bounded plan.figures limit there) family place ts L is.rows_rise
