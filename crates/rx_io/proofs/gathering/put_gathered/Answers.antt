use Rattle.std.proofs.Common.{refl}
use Rattle.std.specs.Io.KnownBytes.{Appends}
use Rattle.rx_io.proofs.Patching.{Gathers-more, Gathers-written, front_before, front_behind, none_written, on_ok}
use Rattle.rx_io.proofs.gathering.put_gathered.Goals as goal

pub returns-clause-whole : goal.returns-clause-whole
returns-clause-whole g c =
    let before = g.S.Sink.written c.args.sink.now in
    let between = g.S.Sink.written c.write_gathered.new.sink in
    let after = g.S.Sink.written c.write_all.new.sink in
    let wrote = c.in_ok-write_gathered.ensures in
    let whole = rw (c.if-gather.ensures.same refl) at wrote.whole in
    on_ok c.write_all.result c.write_all.ensures.whole
    (λ (written : Appends between after c.args.piece.now).
    Gathers-written before between after c.args.gathered.now.items c.args.piece.now c.write_gathered.new.gathered.items
    whole written wrote.none_left)

pub returns-clause-front : goal.returns-clause-front
returns-clause-front g c =
    let before = g.S.Sink.written c.args.sink.now in
    let between = g.S.Sink.written c.write_gathered.new.sink in
    let after = g.S.Sink.written c.write_all.new.sink in
    let whole = rw (c.if-gather.ensures.same refl) at c.in_ok-write_gathered.ensures.whole in
    front_behind before between after c.args.gathered.now.items c.args.piece.now whole c.write_all.ensures.front

pub returns-then-gather-clause-whole : goal.returns-then-gather-clause-whole
returns-then-gather-clause-whole g c = Gathers-more _ c.args.gathered.now.items _ _ (c.if-gather.ensures.more refl)

pub returns-then-gather-clause-front : goal.returns-then-gather-clause-front
returns-then-gather-clause-front g c = none_written _ _

pub returns-in_err-write_gathered-clause-front : goal.returns-in_err-write_gathered-clause-front
returns-in_err-write_gathered-clause-front g c =
    let front = rw (c.if-gather.ensures.same refl) at c.in_err-write_gathered.ensures.front in
    front_before _ _ c.args.gathered.now.items c.args.piece.now front
