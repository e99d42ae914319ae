use Rattle.rx_commands.proofs.explanations.printed_beside.Goals as goal

pub returns-in-None-clause-refused : goal.returns-in-None-clause-refused
returns-in-None-clause-refused c sheet books batch = rw c.in-None.is (c.printed_alone.ensures.refused sheet books batch)

pub returns-in-Some-clause-refused : goal.returns-in-Some-clause-refused
returns-in-Some-clause-refused c sheet books batch = rw c.in-Some.is (c.printed_with.ensures.refused sheet books batch)
