use Rattle.std.proofs.Common.{◌≡◌, ◌≤◌, ◌∙◌, ℕ, true, false, arith, inl, inr, refl, sym}
use Rattle.std.proofs.lemmas.Bool.{cases_Bool}
use Rattle.rx_fields.specs.Numbered.{Span, is_within}
use Rattle.rx_fields.specs.declared.limits.TheConstants.{MOST_CENTS}
use Rattle.rx_ledger.specs.Rows.{claimed_by}
use Rattle.rx_ledger.specs.Sums.{counted, deductible_paid, paid_by_patient}
use Rattle.rx_ledger.specs.declared.row.Row.{Row}
use Rattle.rx_diagnostics.proofs.books_totals.counted_of.Goals as goal

-- a figure counts itself or nothing
at_most : (period : Span) (figure : Row → ℕ) (r : Row) (most : ℕ) → figure r ≤ most → counted period figure r ≤ most
at_most period figure r most small = elim (cases_Bool (is_within period r.key.date)) [
  | inl within ↦ rw within small
  | inr apart ↦ rw apart (omega arith)
]

pub returns-then-is_same-clause-out_of_pocket : goal.returns-then-is_same-clause-out_of_pocket
returns-then-is_same-clause-out_of_pocket c =
    let own : claimed_by c.args.family.now c.args.row.now ≡ true = sym c.is_same.ensures ∙ c.if-is_same.true in
    rw own c.counted_in.ensures.out_of_pocket

pub returns-then-is_same-clause-deductible : goal.returns-then-is_same-clause-deductible
returns-then-is_same-clause-deductible c =
    let own : claimed_by c.args.family.now c.args.row.now ≡ true = sym c.is_same.ensures ∙ c.if-is_same.true in
    rw own c.counted_in.ensures.deductible

pub returns-then-is_same-clause-small : goal.returns-then-is_same-clause-small
returns-then-is_same-clause-small c =
    rw c.counted_in.ensures.out_of_pocket
    (at_most c.args.period paid_by_patient c.args.row.now MOST_CENTS c.counted_in.ensures.small)

pub returns-then-is_same-clause-less : goal.returns-then-is_same-clause-less
returns-then-is_same-clause-less c =
    let paid : deductible_paid c.args.row.now ≤ MOST_CENTS = omega (arith, c.counted_in.ensures.small) in
    rw c.counted_in.ensures.deductible (at_most c.args.period deductible_paid c.args.row.now MOST_CENTS paid)

pub returns-else-is_same-clause-out_of_pocket : goal.returns-else-is_same-clause-out_of_pocket
returns-else-is_same-clause-out_of_pocket c =
    let other : claimed_by c.args.family.now c.args.row.now ≡ false = sym c.is_same.ensures ∙ c.if-is_same.false in
    rw other refl

pub returns-else-is_same-clause-deductible : goal.returns-else-is_same-clause-deductible
returns-else-is_same-clause-deductible c =
    let other : claimed_by c.args.family.now c.args.row.now ≡ false = sym c.is_same.ensures ∙ c.if-is_same.false in
    rw other refl
