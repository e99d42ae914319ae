use Rattle.std.proofs.Common.{◌+◌, take, drop, sym, subst, take_all}
use Rattle.std.specs.List.{flat_map}
use Rattle.std.specs.Vec.{vec_items}
use Rattle.std.specs.Io.KnownBytes.{Appends}
use Rattle.rx_io.specs.Writing.{AppendsFront}
use Rattle.rx_io.proofs.Passing.{Appends-then, AppendsFront-on, AppendsFront-whole, pieces-at, pieces-more}
use Rattle.rx_io.proofs.sink.write_pieces.Goals as goal

-- The pieces before the one at which a write failed are written, and of that one a front.
pub returns-in_err-write_all-clause-front : goal.returns-in_err-write_all-clause-front
returns-in_err-write_all-clause-front g c =
    let i = c.loop-piece.piece-index in
    let pieces = c.args.pieces.now in
    let piece = c.piece-item.result in
    let before = g.S.Sink.written c.args.sink.now in
    let between = g.S.Sink.written c.loop-piece.sink in
    let after = g.S.Sink.written c.write_all.new.sink in
    let front = rw c.deref.ensures.value at c.in_err-write_all.ensures.front in
    subst (AppendsFront before after) (sym (pieces-at pieces i piece c.loop-piece-test.true c.piece-item.is))
    (AppendsFront-on before between after (flat_map vec_items (take i pieces)) piece.items
    (flat_map vec_items (drop (i + 1) pieces)) c.loop-piece.invariant.0 front)

-- The piece is written after those before it.
pub loop-piece-preserved : goal.loop-piece-preserved
loop-piece-preserved g c =
    let i = c.loop-piece.piece-index in
    let pieces = c.args.pieces.now in
    let piece = c.piece-item.result in
    let before = g.S.Sink.written c.args.sink.now in
    let between = g.S.Sink.written c.loop-piece.sink in
    let after = g.S.Sink.written c.write_all.new.sink in
    let whole = rw c.deref.ensures.value at c.in_ok-write_all.ensures.whole in (
      subst (Appends before after) (sym (pieces-more pieces i piece c.loop-piece-test.true c.piece-item.is))
          (Appends-then before between after (flat_map vec_items (take i pieces)) piece.items c.loop-piece.invariant.0 whole),
      c.in_ok-write_all.ensures.failed,
    )

pub returns-clause-whole : goal.returns-clause-whole
returns-clause-whole g c =
    let before = g.S.Sink.written c.args.sink.now in
    let after = g.S.Sink.written c.loop-piece.sink in
    let all = take_all c.loop-piece.piece-index c.args.pieces.now c.loop-piece-test.false in
    subst (λ pieces. Appends before after (flat_map vec_items pieces)) all c.loop-piece.invariant.0

pub returns-clause-front : goal.returns-clause-front
returns-clause-front g c =
    let before = g.S.Sink.written c.args.sink.now in
    let after = g.S.Sink.written c.loop-piece.sink in
    let all = take_all c.loop-piece.piece-index c.args.pieces.now c.loop-piece-test.false in
    AppendsFront-whole before after (flat_map vec_items c.args.pieces.now)
    (subst (λ pieces. Appends before after (flat_map vec_items pieces)) all c.loop-piece.invariant.0)
