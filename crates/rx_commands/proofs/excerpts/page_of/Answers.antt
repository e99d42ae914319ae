use Rattle.rx_commands.proofs.excerpts.page_of.Goals as goal

pub returns : goal.returns
returns c = rw c.lot.ensures at c.readme.ensures
