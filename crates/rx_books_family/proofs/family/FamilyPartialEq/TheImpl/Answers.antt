use Rattle.rx_d0_values.specs.Same.{same_answer}
use Rattle.rx_books_family.proofs.family.FamilyPartialEq.TheImpl.Goals as goal

pub eq-tells : goal.eq-tells
eq-tells c = same_answer _ _ _ _ c.ensures
