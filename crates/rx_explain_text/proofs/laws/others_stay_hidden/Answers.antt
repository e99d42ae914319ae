use Rattle.rx_explain.proofs.Unnamed.{unnamed}
use Rattle.rx_explain_text.proofs.SameSaid.{same_object, same_words}
use Rattle.rx_explain_text.proofs.laws.others_stay_hidden.Goals as goal

pub returns-clause-words : goal.returns-clause-words
returns-clause-words c x y u v alike seen too listing lot figures request tier compared =
    same_words u v (unnamed x y u v alike seen too) listing lot figures request tier compared

pub returns-clause-object : goal.returns-clause-object
returns-clause-object c x y u v alike seen too lot figures request tier compared =
    same_object u v (unnamed x y u v alike seen too) lot figures request tier compared
