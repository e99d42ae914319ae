use Rattle.std.proofs.Common.{[], sym, ◌∙◌, append-nil}
use Rattle.rx_books_scan.proofs.Begins.{piece_more}
use Rattle.rx_books_scan.proofs.cut.pieces.Goals as goal

pub loop-place-preserved : goal.loop-place-preserved
loop-place-preserved c =
    rw c.in-Ok.ensures.items (piece_more (λ piece. piece.now) c.loop-place.pieces.items c.cut.result.0
    c.loop-place.rest.now c.cut.result.1.now c.args.text.now c.loop-place.invariant c.cut.ensures)

pub returns : goal.returns
returns c =
    rw c.in-Ok-push.ensures.items (
    sym (append-nil _)
    ∙ piece_more (λ piece. piece.now) c.loop-place.pieces.items c.loop-place.rest c.loop-place.rest.now [] c.args.text.now
    c.loop-place.invariant (append-nil c.loop-place.rest.now)
    )
