use Rattle.std.proofs.Common.{true, false, sym, ap, ◌∙◌}
use Rattle.rx_text.specs.declared.separators.TheConstants.{FIELD}
use Rattle.rx_text.specs.Bytes.{cut}
use Rattle.rx_d0_request.specs.Cut.{begins_empty, further}
use Rattle.rx_d0_request.proofs.Fields.{nonempty_by}
use Rattle.rx_d0_request.proofs.Names.{named_by, named_total, named_nothing, named_name, closed, opened}
use Rattle.rx_d0_request.proofs.part.segment_name.Goals as goal

pub returns-in_err-pieces : goal.returns-in_err-pieces
returns-in_err-pieces c =
    let pieces = cut FIELD c.args.segment.now in
    rw c.from_residual.ensures (closed (begins_empty pieces) (further pieces) (named_by (further pieces)) c.in_err-pieces.ensures
    ∙ named_total c.args.segment.now)

pub returns-in_err-name : goal.returns-in_err-name
returns-in_err-name c =
    let pieces = cut FIELD c.args.segment.now in
    let full = nonempty_by c.in-Some.piece.now false c.if-not-is_empty.ensures in
    let none = named_nothing c.next.new.self c.loop-piece.pieces c.in-Some.piece.now _ c.in-Some.ensures.value full c.in_err-name.ensures
    c.loop-piece.invariant in
    rw c.from_residual-in_err-name.ensures (none ∙ (opened (begins_empty pieces) (further pieces) c.in_ok-pieces.pieces
    (named_by (further pieces)) c.in_ok-pieces.ensures ∙ named_total c.args.segment.now))

pub returns-then-all_have_ids : goal.returns-then-all_have_ids
returns-then-all_have_ids c =
    let pieces = cut FIELD c.args.segment.now in
    let full = nonempty_by c.in-Some.piece.now false c.if-not-is_empty.ensures in
    let some = named_name c.next.new.self c.loop-piece.pieces c.in-Some.piece.now c.in_ok-name.name true _ c.in-Some.ensures.value full
    c.in_ok-name.ensures c.if-all_have_ids.ensures c.loop-piece.invariant in
    some ∙ (opened (begins_empty pieces) (further pieces) c.in_ok-pieces.pieces (named_by (further pieces)) c.in_ok-pieces.ensures
    ∙ named_total c.args.segment.now)

pub returns-else-all_have_ids : goal.returns-else-all_have_ids
returns-else-all_have_ids c =
    let pieces = cut FIELD c.args.segment.now in
    let full = nonempty_by c.in-Some.piece.now false c.if-not-is_empty.ensures in
    let none = named_name c.next.new.self c.loop-piece.pieces c.in-Some.piece.now c.in_ok-name.name false _ c.in-Some.ensures.value full
    c.in_ok-name.ensures c.if-all_have_ids.ensures c.loop-piece.invariant in
    none ∙ (opened (begins_empty pieces) (further pieces) c.in_ok-pieces.pieces (named_by (further pieces)) c.in_ok-pieces.ensures
    ∙ named_total c.args.segment.now)

pub returns : goal.returns
returns c =
    let pieces = cut FIELD c.args.segment.now in
    let none = ap named_by (sym c.in_default.ensures.value) ∙ c.loop-piece.invariant in
    none ∙ (opened (begins_empty pieces) (further pieces) c.in_ok-pieces.pieces (named_by (further pieces)) c.in_ok-pieces.ensures
    ∙ named_total c.args.segment.now)
