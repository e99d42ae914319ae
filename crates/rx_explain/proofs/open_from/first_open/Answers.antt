use Rattle.std.specs.Prelude.{not}
use Rattle.std.proofs.Common.{refl, sym, ap, ◌∙◌, arith}
use Rattle.std.proofs.lemmas.Bool.{false≢true}
use Rattle.rx_fields.proofs.DayNumbers.{signed_arith}
use Rattle.rx_explain.proofs.Opened.{fewer_left, none_left, none_next}
use Rattle.rx_explain.proofs.open_from.first_open.Goals as goal

-- After the last day there is none.
pub returns-in_err-day : goal.returns-in_err-day
returns-in_err-day c =
    rw c.from_residual.ensures (none_left c.args.figures.now c.args.rows.now c.args.bill.now c.args.date c.loop-next.day
    c.plus-next.ensures.civil c.loop-next.invariant.1 (sym c.has_early_fill.ensures ∙ c.if-not-has_early_fill.false)
    (c.in_err-day.ensures.none.0 refl))

-- No date is before the first.
pub loop-next-init : goal.loop-next-init
loop-next-init c = (omega (arith, signed_arith), λ e from sooner. absurd (omega (arith, signed_arith, from.1, sooner)))

-- The date is open, and none before it was.
pub returns-then-not-has_early_fill : goal.returns-then-not-has_early_fill
returns-then-not-has_early_fill c = (
  (c.plus-next.ensures.civil, c.loop-next.invariant.0),
  ap not (sym c.has_early_fill.ensures ∙ c.if-not-has_early_fill.true),
  c.loop-next.invariant.1,
)

-- The next date.
pub loop-next-preserved : goal.loop-next-preserved
loop-next-preserved c = (
  omega (arith, signed_arith, c.loop-next.invariant.0, c.in_ok-day.ensures.value),
  none_next c.args.figures.now c.args.rows.now c.args.bill.now c.args.date c.loop-next.day c.in_ok-day.day
      c.plus-next.ensures.civil c.loop-next.invariant.1 (sym c.has_early_fill.ensures ∙ c.if-not-has_early_fill.false)
      c.in_ok-day.ensures.value,
)

-- One day less is left.
pub loop-next-smaller : goal.loop-next-smaller
loop-next-smaller c =
    fewer_left c.loop-next.day c.in_ok-day.day c.in_ok-day.ensures.value
    (λ after. absurd (false≢true (sym (c.in_ok-day.ensures.none.1 after))))
