use Rattle.rx_commands.proofs.ExcerptLaw.{accepted, answer_alike}
use Rattle.rx_commands.proofs.excerpts.law.law_of_excerpts.Goals as goal

pub returns-clause-accepted : goal.returns-clause-accepted
returns-clause-accepted c = accepted

pub returns-clause-alike : goal.returns-clause-alike
returns-clause-alike c sheet books batch place d is own_sheet own_books own_batch own =
    answer_alike sheet books batch own_sheet own_books own_batch place d is own
