use Rattle.rx_commands.proofs.FamilyLaws.{family_first, family_last, own_first, own_last, pocket_first, pocket_last}
use Rattle.rx_commands.proofs.family.law.law_of_claims.Goals as goal

pub returns-clause-deductible : goal.returns-clause-deductible
returns-clause-deductible c limits period rows xs ys zs x k is figure limit reached own =
    own_first limits period rows xs ys zs x k is figure limit reached own

pub returns-clause-family_deductible : goal.returns-clause-family_deductible
returns-clause-family_deductible c limits period rows xs ys zs x k is figure limit reached =
    family_first limits period rows xs ys zs x k is figure limit reached

pub returns-clause-out_of_pocket : goal.returns-clause-out_of_pocket
returns-clause-out_of_pocket c limits period rows xs ys zs x k is figure limit reached =
    pocket_first limits period rows xs ys zs x k is figure limit reached

pub returns-clause-last_own : goal.returns-clause-last_own
returns-clause-last_own c limits period rows claims xs ys k are is none = own_last limits period rows claims xs ys k are is none

pub returns-clause-last_deductible : goal.returns-clause-last_deductible
returns-clause-last_deductible c limits period rows claims xs ys k are is none =
    family_last limits period rows claims xs ys k are is none

pub returns-clause-last_out_of_pocket : goal.returns-clause-last_out_of_pocket
returns-clause-last_out_of_pocket c limits period rows claims xs ys k are is none =
    pocket_last limits period rows claims xs ys k are is none
