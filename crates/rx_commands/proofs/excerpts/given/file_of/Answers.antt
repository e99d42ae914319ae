use Rattle.rx_commands.proofs.excerpts.given.file_of.Goals as goal

pub returns-in-Some-clause-refused : goal.returns-in-Some-clause-refused
returns-in-Some-clause-refused c sheet books batch = rw c.in-Some.is (c.file_in.ensures.refused sheet books batch)
