use Rattle.rx_d0_request.proofs.Bits.{marks_at_first}
use Rattle.rx_d0_request.proofs.piece.Pieces.new.Goals as goal

pub invariant_of-result : goal.invariant_of-result
invariant_of-result c = rw c.min.ensures (marks_at_first c.args.separator c.first_marks.result c.args.text.now c.first_marks.ensures)
