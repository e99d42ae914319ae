use Rattle.std.proofs.Common.{rules, refl, subst, take}
use Rattle.std.specs.Io.KnownBytes.{Appends}
use Rattle.rx_io.proofs.Passing.{Appends-on, rest-is}
use Rattle.rx_io.proofs.sink.write_all.Goals as goal

-- The bytes that were taken come after the front that was written before.
pub by_piece-preserved : goal.by_piece-preserved
by_piece-preserved g c =
    let kept = c.by_piece.invariant in
    let wrote = c.in_ok-taken.ensures in
    let within = wrote.bound in
    let before = g.S.Sink.written c.by_piece.sink in
    let after = g.S.Sink.written c.write.new.self in
    let text = c.args.text.now in
    let taken = c.in_ok-taken.taken in
    let some = c.if-taken-eq0.false in
    let failed = wrote.failed in
    let hadnt = kept.2 in (
      search rules,
      Appends-on _ before after text c.by_piece.done taken kept.1
          (subst (λ piece. Appends before after (take taken piece)) (rest-is c.by_piece.done text) wrote.bytes),
      search rules,
      refl,
    )
