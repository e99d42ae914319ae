use Rattle.std.proofs.Common.{List, ℕ, sym, ap, ◌∙◌, arith}
use Rattle.rx_text.specs.declared.separators.TheConstants.{SEGMENT}
use Rattle.rx_text.specs.Bytes.{cut}
use Rattle.rx_d0_request.specs.Cut.{begins_empty, further}
use Rattle.rx_d0_request.specs.Slots.{texts_of}
use Rattle.rx_d0_request.proofs.Names.{closed, opened}
use Rattle.rx_d0_request.proofs.Runs.{run_segments, segments_on, segments_off, segments_total, empty_length}
use Rattle.rx_d0_request.proofs.part.put_segments.Goals as goal

pub returns-in_err-pieces : goal.returns-in_err-pieces
returns-in_err-pieces c =
    let pieces = cut SEGMENT c.args.part.now in
    let names = c.args.names.now in
    let slots = texts_of c.args.slots.now in
    rw c.from_residual.ensures (closed (begins_empty pieces) (further pieces)
    (run_segments names slots (further pieces)) c.in_err-pieces.ensures ∙ segments_total names slots c.args.part.now c.requires)

pub put_segment-requires : goal.put_segment-requires
put_segment-requires c = omega (arith, empty_length c.args.names.now c.args.slots.now c.requires)

pub loop-segment-preserved : goal.loop-segment-preserved
loop-segment-preserved c =
    segments_on c.args.names.now (texts_of c.loop-segment.slots) (texts_of c.put_segment.new.slots) c.loop-segment.pieces c.next.new.self
    c.in-Some.segment.now _
    c.in-Some.ensures.value (sym c.in_ok-put_segment.ensures) c.loop-segment.invariant

pub returns-in_err-put_segment : goal.returns-in_err-put_segment
returns-in_err-put_segment c =
    let pieces = cut SEGMENT c.args.part.now in
    let names = c.args.names.now in
    let slots = texts_of c.args.slots.now in
    let none = segments_off names (texts_of c.loop-segment.slots) c.loop-segment.pieces c.next.new.self c.in-Some.segment.now _
    c.in-Some.ensures.value (sym c.in_err-put_segment.ensures) c.loop-segment.invariant in
    rw c.from_residual-in_err-put_segment.ensures (sym none ∙ (opened (begins_empty pieces) (further pieces) c.in_ok-pieces.pieces
    (run_segments names slots (further pieces)) c.in_ok-pieces.ensures ∙ segments_total names slots c.args.part.now c.requires))

pub returns : goal.returns
returns c =
    let pieces = cut SEGMENT c.args.part.now in
    let names = c.args.names.now in
    let slots = texts_of c.args.slots.now in
    let ended = ap (λ (left : List (List ℕ)). run_segments names (texts_of c.loop-segment.slots) left) c.in_default.ensures.value in
    sym ended ∙ (c.loop-segment.invariant ∙ (opened (begins_empty pieces) (further pieces) c.in_ok-pieces.pieces
    (run_segments names slots (further pieces)) c.in_ok-pieces.ensures ∙ segments_total names slots c.args.part.now c.requires))
