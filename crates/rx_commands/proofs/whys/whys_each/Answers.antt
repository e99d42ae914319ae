-- The batch of the pass is the one that is adjudicated.
use Rattle.rx_commands.proofs.whys.whys_each.Goals as goal

pub returns : goal.returns
returns c = rw c.deref.ensures.value at c.whys_on-whys.ensures
