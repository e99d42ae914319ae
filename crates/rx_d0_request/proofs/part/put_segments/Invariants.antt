use Rattle.std.proofs.Common.{◌≡◌, length}
use Rattle.rx_text.specs.declared.separators.TheConstants.{SEGMENT}
use Rattle.rx_text.specs.Bytes.{cut}
use Rattle.rx_d0_request.specs.Cut.{further}
use Rattle.rx_d0_request.specs.Slots.{texts_of}
use Rattle.rx_d0_request.proofs.Runs.{run_segments}
use Rattle.rx_d0_request.proofs.part.put_segments.Given as goal

abbrev pub invariant-loop-segment : goal.invariant-loop-segment
invariant-loop-segment l =
    run_segments l.names (texts_of l.slots) l.pieces ≡ run_segments l.names (texts_of l.fn.slots) (further (cut SEGMENT l.part))

abbrev pub decreases-loop-segment : goal.decreases-loop-segment
decreases-loop-segment l = length l.pieces
