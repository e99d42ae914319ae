use Rattle.rx_commands.proofs.excerpts.compared_to.Goals as goal

pub returns : goal.returns
returns c = rw c.lot.ensures at c.compared_next_to.ensures
