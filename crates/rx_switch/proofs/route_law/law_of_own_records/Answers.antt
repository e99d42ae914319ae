-- The end books and the replies follow from the plan's records with their places.
use Rattle.rx_switch.proofs.Routing.{same_answers, same_end}
use Rattle.rx_switch.proofs.route_law.law_of_own_records.Goals as goal

pub returns-clause-books : goal.returns-clause-books
returns-clause-books c = λ x y p lots records. same_end x y p lots records

pub returns-clause-replies : goal.returns-clause-replies
returns-clause-replies c = λ x y p lots records. same_answers x y p lots records
