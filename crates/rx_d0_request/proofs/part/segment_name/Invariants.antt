use Rattle.std.proofs.Common.{◌≡◌, length}
use Rattle.rx_text.specs.declared.separators.TheConstants.{FIELD}
use Rattle.rx_text.specs.Bytes.{cut}
use Rattle.rx_d0_request.specs.Cut.{further}
use Rattle.rx_d0_request.proofs.Names.{named_by}
use Rattle.rx_d0_request.proofs.part.segment_name.Given as goal

abbrev pub invariant-loop-piece : goal.invariant-loop-piece
invariant-loop-piece l = named_by l.pieces ≡ named_by (further (cut FIELD l.segment))

abbrev pub decreases-loop-piece : goal.decreases-loop-piece
decreases-loop-piece l = length l.pieces
