use Rattle.std.proofs.Common.{◌≤◌, ◌+◌, Err, length, length-take-le, take, ap, sym, subst, ◌∙◌, arith, rules}
use Rattle.std.proofs.lemmas.List.{with_items_is, places}
use Rattle.std.specs.Io.KnownBytes.{Consumes}
use Rattle.rx_io.specs.Reading.{IsRead}
use Rattle.rx_io.proofs.Passing.{Consumes-after, Consumes-long, Consumes-nothing, Consumes-long_after, IsRead-end}
use Rattle.rx_io.proofs.reading.fill.Goals as goal

-- The piece was read after the front that was read before.
pub by_room-preserved : goal.by_room-preserved
by_room-preserved g c =
    let kept = c.by_room.invariant in
    let read = c.in_ok-count.ensures in
    let some = c.if-count-eq0.false in
    let left = g.S.Source.left c.args.source.now in
    let rest = g.S.Source.left c.read_after.new.source in
    let items = with_items_is c.make_room.new.text c.read_after.new.text (search (rules, places)) in
    let front = read.front ∙ ap (take c.by_room.len) c.as_mut_slice.ensures.value ∙ c.make_room.ensures.front in (
      subst (λ text. Consumes left rest (take (c.by_room.len + c.in_ok-count.count) text)) (sym items)
          (Consumes-after _ _ _ _ c.read_after.new.text c.by_room.len c.in_ok-count.count front kept.0 read.piece),
      read.failed,
      omega (arith, kept.2),
      read.within,
      search (rules, places),
      omega (arith, kept.5, read.reads),
      λ h. read.cramped (kept.6 h),
    )

-- The last piece is empty, so the text is what was read before it.
pub returns-then-count-eq0-clause-ok : goal.returns-then-count-eq0-clause-ok
returns-then-count-eq0-clause-ok g c =
    let kept = c.by_room.invariant in
    let read = c.in_ok-count.ensures in
    let left = g.S.Source.left c.args.source.now in
    let rest = g.S.Source.left c.read_after.new.source in
    let items = with_items_is c.make_room.new.text c.read_after.new.text (search (rules, places)) in
    let front = rw (c.as_mut_slice.ensures.value, c.make_room.ensures.front) at read.front in
    subst (λ text. IsRead left rest (take c.by_room.len text)) (sym items)
    (IsRead-end _ _ _ _ c.read_after.new.text c.by_room.len c.in_ok-count.count front kept.0 read.piece
    c.if-count-eq0.true (read.end c.if-count-eq0.true) kept.3)

-- What was to come after the text was too long, and so is the input.
pub returns-in_err-count-clause-long : goal.returns-in_err-count-clause-long
returns-in_err-count-clause-long g c = λ e.
    let kept = c.by_room.invariant in
    let told = rw e at c.from_residual-in_err-count.ensures in
    let within : c.by_room.len ≤ length c.by_room.text.items = omega (arith, kept.4, c.by_room.text.ok) in
    Consumes-long_after _ _ _ c.by_room.len within kept.0 (c.in_err-count.ensures.long (ap Err (sym told.1)))

-- At least a byte a read was read.
pub returns-clause-long : goal.returns-clause-long
returns-clause-long g c = λ e.
    let kept = c.by_room.invariant in
    let within : c.by_room.len ≤ length c.by_room.text.items = omega (arith, kept.4, c.by_room.text.ok) in
    let len = length-take-le c.by_room.len c.by_room.text.items within in
    Consumes-long _ _ _ kept.0 (omega (arith, kept.2, c.by_room-test.false))

pub returns-in_err-count-clause-reads : goal.returns-in_err-count-clause-reads
returns-in_err-count-clause-reads g c =
    let kept = c.by_room.invariant in
    let read = c.in_err-count.ensures in
    record { few = omega (arith, kept.5, read.reads, c.by_room-test.true); roomy = λ h. read.cramped (kept.6 h) }

pub returns-in_err-make_room-clause-long : goal.returns-in_err-make_room-clause-long
returns-in_err-make_room-clause-long g c = λ e. let told = rw e at c.from_residual.ensures in absurd (cc told.1)

pub by_room-init : goal.by_room-init
by_room-init g c =
    (Consumes-nothing _, c.requires, omega arith, omega arith, omega arith, omega arith, λ h. h)

pub returns-in_err-make_room-clause-reads : goal.returns-in_err-make_room-clause-reads
returns-in_err-make_room-clause-reads g c =
    let kept = c.by_room.invariant in
    record { few = omega (arith, kept.5, c.by_room.auto.counter-end); roomy = kept.6 }

pub returns-then-count-eq0-clause-reads : goal.returns-then-count-eq0-clause-reads
returns-then-count-eq0-clause-reads g c =
    let kept = c.by_room.invariant in
    let read = c.in_ok-count.ensures in
    record { few = omega (arith, kept.5, read.reads, c.by_room-test.true); roomy = λ h. read.cramped (kept.6 h) }

pub returns-clause-reads : goal.returns-clause-reads
returns-clause-reads g c =
    let kept = c.by_room.invariant in
    record { few = omega (arith, kept.5, c.by_room.auto.counter-end); roomy = kept.6 }
