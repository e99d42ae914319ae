use Rattle.std.proofs.Common.{◌∙◌, sym, ◌++◌}
use Rattle.rx_batch.proofs.Steps.{piece_comes, piece_read}
use Rattle.rx_batch.proofs.reader.Reader.read.Goals as goal

pub returns-clause-ok : goal.returns-clause-ok
returns-clause-ok c text h =
    piece_read c.loop-rest.self (text ++ c.args.piece.now) c.loop-rest.rest.now (sym c.is_empty.ensures ∙ c.loop-rest-test.false)
    (c.loop-rest.invariant (text ++ c.args.piece.now) (piece_comes c.args.self.now text c.args.piece.now h))
