use Rattle.std.proofs.Common.{refl, subst, sym}
use Rattle.rx_books_upkeep.specs.Loading.{IsLoaded, LeavesBilled, loaded}
use Rattle.rx_books_upkeep.proofs.Carried.{fold_carried, replies_carried}
use Rattle.rx_books_upkeep.proofs.Loads.{Comes, carries, is_loaded, one_loaded}
use Rattle.rx_books_upkeep.proofs.law.law_of_loading.Goals as goal

pub returns-clause-one : goal.returns-clause-one
returns-clause-one c L M table order rise = (
  λ is. one_loaded L M table order rise is,
  λ same. subst (IsLoaded L table) (sym same) (is_loaded L table order rise),
)

pub returns-clause-replies : goal.returns-clause-replies
returns-clause-replies c lot plan place transmissions L table order left =
    replies_carried lot plan (Comes L table) (LeavesBilled L table) (λ M. loaded M table) (carries L table lot plan)
    place transmissions L (record { members = refl; rise = order.members_rise }) left

pub returns-clause-ledger : goal.returns-clause-ledger
returns-clause-ledger c lot plan place transmissions L table order left =
    fold_carried lot plan (Comes L table) (LeavesBilled L table) (λ M. loaded M table) (carries L table lot plan)
    place transmissions L (record { members = refl; rise = order.members_rise }) left
