use Rattle.rx_batch.proofs.Steps.{nothing_read}
use Rattle.rx_batch.proofs.pieces.Pieces.new.Goals as goal

pub returns-clause-text : goal.returns-clause-text
returns-clause-text c = nothing_read c.new.result c.new.ensures
