use Rattle.std.proofs.Common.{length, refl, arith}
use Rattle.std.specs.Arc.{arc_value}
use Rattle.std.specs.Io.KnownBytes.{Appends}
use Rattle.std.specs.List.{slice_range}
use Rattle.rx_io.specs.declared.patched.Piece.TheVariants.{Lent}
use Rattle.rx_io.proofs.Patching.{Gathers-all, gathered_front, last_front, last_gathered, on_ok, patch_is, piece_front, piece_gathered}
use Rattle.rx_io.proofs.patched.Patched.write_to.Goals as goal

pub returns-in_err-put_gathered-clause-front : goal.returns-in_err-put_gathered-clause-front
returns-in_err-put_gathered-clause-front g c =
    let s = c.self.inside in
    let lender = c.as_slice-lender.result.now in
    let own = c.as_slice-own.result.now in
    let pieces = c.deref-piece-items.result.now in
    let whole = patch_is lender (arc_value s.lender).items own s.own.items pieces s.pieces.items s.begun c.args.self.now
    (cc (c.as_slice-lender.ensures.value, c.deref.ensures)) c.as_slice-own.ensures.value c.deref-piece-items.ensures.value
    c.self.view_is in
    piece_front lender own pieces s.begun (g.S.Sink.written c.args.sink.now) (g.S.Sink.written c.loop-piece.sink)
    (g.S.Sink.written c.put_gathered.new.sink) c.loop-piece.gathered.items c.bytes_of.result.now c.loop-piece.piece-index
    c.loop-piece.invariant.written (Lent 0 0) c.args.self.now.text whole (omega arith) c.bytes_of.ensures
    c.in_err-put_gathered.ensures.front

pub loop-piece-preserved : goal.loop-piece-preserved
loop-piece-preserved g c =
    let s = c.self.inside in
    let lender = c.as_slice-lender.result.now in
    let own = c.as_slice-own.result.now in
    let pieces = c.deref-piece-items.result.now in
    record {
      written = piece_gathered lender own pieces s.begun (g.S.Sink.written c.args.sink.now) (g.S.Sink.written c.loop-piece.sink)
          (g.S.Sink.written c.put_gathered.new.sink) c.loop-piece.gathered.items c.bytes_of.result.now c.loop-piece.piece-index
          c.loop-piece.invariant.written (Lent 0 0) c.put_gathered.new.gathered.items (omega arith) c.bytes_of.ensures
          c.in_ok-put_gathered.ensures.whole;
      works = c.in_ok-put_gathered.ensures.failed;
    }

pub returns-in_err-put_gathered-2-clause-front : goal.returns-in_err-put_gathered-2-clause-front
returns-in_err-put_gathered-2-clause-front g c =
    let s = c.self.inside in
    let lender = c.as_slice-lender.result.now in
    let own = c.as_slice-own.result.now in
    let pieces = c.deref-piece-items.result.now in
    let whole = patch_is lender (arc_value s.lender).items own s.own.items pieces s.pieces.items s.begun c.args.self.now
    (cc (c.as_slice-lender.ensures.value, c.deref.ensures)) c.as_slice-own.ensures.value c.deref-piece-items.ensures.value
    c.self.view_is in
    last_front lender own pieces s.begun (g.S.Sink.written c.args.sink.now) (g.S.Sink.written c.loop-piece.sink)
    (g.S.Sink.written c.put_gathered-2.new.sink) c.loop-piece.gathered.items (slice_range own s.begun (length own))
    c.loop-piece.piece-index c.loop-piece.invariant.written c.args.self.now.text whole (omega arith) refl
    c.in_err-put_gathered-2.ensures.front

pub returns-clause-whole : goal.returns-clause-whole
returns-clause-whole g c =
    let s = c.self.inside in
    let lender = c.as_slice-lender.result.now in
    let own = c.as_slice-own.result.now in
    let pieces = c.deref-piece-items.result.now in
    let whole = patch_is lender (arc_value s.lender).items own s.own.items pieces s.pieces.items s.begun c.args.self.now
    (cc (c.as_slice-lender.ensures.value, c.deref.ensures)) c.as_slice-own.ensures.value c.deref-piece-items.ensures.value
    c.self.view_is in
    let before = g.S.Sink.written c.args.sink.now in
    let between = g.S.Sink.written c.put_gathered-2.new.sink in
    let after = g.S.Sink.written c.write_gathered.new.sink in
    let gathered = c.put_gathered-2.new.gathered.items in
    let all = last_gathered lender own pieces s.begun before (g.S.Sink.written c.loop-piece.sink) between
    c.loop-piece.gathered.items (slice_range own s.begun (length own)) c.loop-piece.piece-index c.loop-piece.invariant.written
    gathered c.args.self.now.text whole (omega arith) refl c.in_ok-put_gathered-2.ensures.whole in
    on_ok c.write_gathered.result c.write_gathered.ensures.whole
    (λ (written : Appends between after gathered). Gathers-all before between after gathered c.args.self.now.text all written)

pub returns-clause-front : goal.returns-clause-front
returns-clause-front g c =
    let s = c.self.inside in
    let lender = c.as_slice-lender.result.now in
    let own = c.as_slice-own.result.now in
    let pieces = c.deref-piece-items.result.now in
    let whole = patch_is lender (arc_value s.lender).items own s.own.items pieces s.pieces.items s.begun c.args.self.now
    (cc (c.as_slice-lender.ensures.value, c.deref.ensures)) c.as_slice-own.ensures.value c.deref-piece-items.ensures.value
    c.self.view_is in
    let before = g.S.Sink.written c.args.sink.now in
    let between = g.S.Sink.written c.put_gathered-2.new.sink in
    let after = g.S.Sink.written c.write_gathered.new.sink in
    let gathered = c.put_gathered-2.new.gathered.items in
    let all = last_gathered lender own pieces s.begun before (g.S.Sink.written c.loop-piece.sink) between
    c.loop-piece.gathered.items (slice_range own s.begun (length own)) c.loop-piece.piece-index c.loop-piece.invariant.written
    gathered c.args.self.now.text whole (omega arith) refl c.in_ok-put_gathered-2.ensures.whole in
    gathered_front before between after gathered c.args.self.now.text all c.write_gathered.ensures.front
