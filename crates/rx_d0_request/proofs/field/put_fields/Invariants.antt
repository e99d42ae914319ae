use Rattle.std.proofs.Common.{◌≡◌, length, map}
use Rattle.rx_text.specs.declared.separators.TheConstants.{FIELD}
use Rattle.rx_text.specs.Bytes.{cut}
use Rattle.rx_d0_request.specs.Cut.{field_of, further}
use Rattle.rx_d0_request.specs.Slots.{texts_of}
use Rattle.rx_d0_request.proofs.Runs.{run_fields}
use Rattle.rx_d0_request.proofs.field.put_fields.Given as goal

abbrev pub invariant-loop-piece : goal.invariant-loop-piece
invariant-loop-piece l =
    run_fields l.ids (texts_of l.slots) (map field_of l.pieces)
    ≡ run_fields l.ids (texts_of l.fn.slots) (map field_of (further (cut FIELD l.segment)))

abbrev pub decreases-loop-piece : goal.decreases-loop-piece
decreases-loop-piece l = length l.pieces
