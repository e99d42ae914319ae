use Rattle.rx_schedule.proofs.naming.name_books.Goals as goal

pub returns-in-Heard-clause-families : goal.returns-in-Heard-clause-families
returns-in-Heard-clause-families c = λ earlier has. rw c.in-Heard.is (c.name_all.ensures.families earlier has)
