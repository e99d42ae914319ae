use Rattle.std.proofs.Common.{refl}
use Rattle.rx_books_upkeep.specs.Ageing.{IsDatedFrom, aged}
use Rattle.rx_books_upkeep.proofs.Ages.{Comes, carries}
use Rattle.rx_books_upkeep.proofs.Carried.{comes_fold, fold_carried, replies_carried}
use Rattle.rx_books_upkeep.proofs.law.law_of_ageing.Goals as goal

pub returns-clause-replies : goal.returns-clause-replies
returns-clause-replies c lot plan place transmissions L before day percent order le few safe dated =
    replies_carried lot plan (Comes before percent day L safe) (IsDatedFrom day) (aged before)
    (carries before percent day L safe plan le few lot) place transmissions L
    (record { rise = order.rows_rise; same = refl }) dated

pub returns-clause-ledger : goal.returns-clause-ledger
returns-clause-ledger c lot plan place transmissions L before day percent order le few safe dated =
    fold_carried lot plan (Comes before percent day L safe) (IsDatedFrom day) (aged before)
    (carries before percent day L safe plan le few lot) place transmissions L
    (record { rise = order.rows_rise; same = refl }) dated

pub returns-clause-still : goal.returns-clause-still
returns-clause-still c lot plan place transmissions L before day percent order le few safe dated =
    (comes_fold lot plan (Comes before percent day L safe) (IsDatedFrom day) (aged before)
    (carries before percent day L safe plan le few lot) place transmissions L
    (record { rise = order.rows_rise; same = refl }) dated).same
