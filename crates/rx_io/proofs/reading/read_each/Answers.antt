use Rattle.std.proofs.Common.{ap, sym, arith, Result, Ok, Err}
use Rattle.std.specs.Prelude.{OnErr}
use Rattle.rx_io.proofs.Passing.{PassesFront-nothing, PassesPiece-all, PassesPiece-front, PassesPiece-long, PassesPiece-nothing}
use Rattle.rx_io.proofs.Passing.{PassesPiece-on, PassesPiece-over}
use Rattle.rx_io.proofs.reading.read_each.Goals as goal

-- what holds after an error
after_error : {X E P : Type 0} (r : Result X E) → P → OnErr r P
after_error (Ok x) p = tt
after_error (Err e) p = p

-- The piece comes after those that went on before.
pub by_piece-preserved : goal.by_piece-preserved
by_piece-preserved g c =
    let kept = c.by_piece.invariant in
    let read = c.in_ok-count.ensures in
    let some = c.if-count-eq0.false in
    let within = read.within in (
      PassesPiece-on _ _ _ _ _ _ _ _ kept.0 read.piece,
      read.failed,
      omega (arith, kept.2),
      within,
      kept.4,
      omega (arith, kept.5, read.reads),
      λ h. read.cramped (kept.6 h),
    )

-- The last piece, which is empty, ends the input.
pub returns-then-count-eq0-clause-ok : goal.returns-then-count-eq0-clause-ok
returns-then-count-eq0-clause-ok g c =
    let kept = c.by_piece.invariant in
    let read = c.in_ok-count.ensures in
    PassesPiece-all _ _ _ _ _ (PassesPiece-on _ _ _ _ _ _ _ _ kept.0 read.piece) read.within
    (read.end c.if-count-eq0.true)

-- After an error, the pieces that went on before are a front.
pub returns-in_err-count-clause-front : goal.returns-in_err-count-clause-front
returns-in_err-count-clause-front g c =
    after_error _ (PassesPiece-front _ _ _ _ _ _ c.by_piece.invariant.0 c.in_err-count.ensures.front)

pub returns-clause-front : goal.returns-clause-front
returns-clause-front g c = PassesPiece-front _ _ _ _ _ _ c.by_piece.invariant.0 (λ text h. h)

-- What was to come after the pieces was too long, and so is the input.
pub returns-in_err-count-clause-long : goal.returns-in_err-count-clause-long
returns-in_err-count-clause-long g c = λ e.
    let told = rw e at c.from_residual-in_err-count.ensures in
    PassesPiece-over _ _ _ _ c.by_piece.total c.by_piece.invariant.0 (c.in_err-count.ensures.long (ap Err (sym told.1)))

-- At least a byte a read went on.
pub returns-clause-long : goal.returns-clause-long
returns-clause-long g c = λ e.
    let kept = c.by_piece.invariant in
    PassesPiece-long _ _ _ _ c.by_piece.total kept.0 (omega (arith, kept.2, c.by_piece-test.false))

pub by_piece-init : goal.by_piece-init
by_piece-init g c =
    (PassesPiece-nothing _ _, c.requires, omega arith, omega arith, c.in_ok-room.ensures, omega arith, λ h. h)

pub returns-in_err-room-clause-front : goal.returns-in_err-room-clause-front
returns-in_err-room-clause-front g c = after_error _ (PassesFront-nothing _ _)

pub returns-in_err-count-clause-reads : goal.returns-in_err-count-clause-reads
returns-in_err-count-clause-reads g c =
    let kept = c.by_piece.invariant in
    let read = c.in_err-count.ensures in
    record { few = omega (arith, kept.5, read.reads, c.by_piece-test.true); roomy = λ h. read.cramped (kept.6 h) }

pub returns-then-count-eq0-clause-reads : goal.returns-then-count-eq0-clause-reads
returns-then-count-eq0-clause-reads g c =
    let kept = c.by_piece.invariant in
    let read = c.in_ok-count.ensures in
    record { few = omega (arith, kept.5, read.reads, c.by_piece-test.true); roomy = λ h. read.cramped (kept.6 h) }

pub returns-clause-reads : goal.returns-clause-reads
returns-clause-reads g c =
    let kept = c.by_piece.invariant in
    record { few = omega (arith, kept.5, c.by_piece.auto.counter-end); roomy = kept.6 }
