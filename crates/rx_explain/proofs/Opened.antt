-- The first date on which no fill is too soon, looked for from one date to the next.
use Rattle.std.specs.Prelude.{not}
use Rattle.std.proofs.Common.{◌≡◌, ℕ, ◌<◌, true, false, List, Option, Some, None, ℤ, pos, negsuc, ◌+ℤ◌, ◌-ℤ◌, ◌≤ℤ◌, ◌<ℤ◌, unsigned_abs}
use Rattle.std.proofs.Common.{sym, ap, subst, ◌∙◌, arith}
use Rattle.std.proofs.lemmas.Int.{by_lt_z}
use Rattle.std.specs.List.{filter, list_any}
use Rattle.rx_fields.specs.Calendar.{Civil, IsCivil, day_number, last_day}
use Rattle.rx_fields.proofs.DayNumbers.{same_number, signed_arith, up_to_last}
use Rattle.rx_d0_values.specs.declared.bill.BillParts.{BillParts}
use Rattle.rx_ledger.specs.declared.figures.Figures.{Figures}
use Rattle.rx_ledger.specs.declared.row.Row.{Row}
use Rattle.rx_ledger.specs.Answers.{is_too_soon}
use Rattle.rx_ledger.specs.Ledger.{Ledger, rows_of}
use Rattle.rx_ledger.specs.Rows.{claimed_by}
use Rattle.rx_explain.specs.Opens.{IsFirstOpen, IsFrom, is_early_fill, is_open}
use Rattle.rx_explain.proofs.Counted.{any_among}

module _ (f : Figures) (rows : List Row) (b : BillParts) (date : Civil) where
  -- no date from the first up to before another is open
  abbrev pub NoneBefore : Civil → Type 0
  NoneBefore day = (e : Civil) → IsFrom date e → day_number e <ℤ day_number day → is_open f rows b e ≡ false

  -- nor is one up to that other date, where it isn't open either
  none_up_to : (day : Civil) → IsCivil day → NoneBefore day → list_any (is_early_fill f day b) rows ≡ true
      → (e : Civil) → IsFrom date e → day_number e ≤ℤ day_number day → is_open f rows b e ≡ false
  none_up_to day civil before early e from up_to =
      by_lt_z (day_number e) (day_number day) (before e from)
      (λ at_least.
      let same : day_number day ≡ day_number e = omega (arith, signed_arith) in
      subst (λ d. is_open f rows b d ≡ false) (same_number day e civil from.0 same) (ap not early))

  pub none_next : (day next : Civil) → IsCivil day → NoneBefore day → list_any (is_early_fill f day b) rows ≡ true
      → day_number next ≡ day_number day +ℤ pos 1 → NoneBefore next
  none_next day next civil before early is e from sooner =
      none_up_to day civil before early e from (omega (arith, signed_arith))

  pub none_left : (day : Civil) → IsCivil day → NoneBefore day → list_any (is_early_fill f day b) rows ≡ true
      → day_number last_day <ℤ (day_number day +ℤ pos 1) → IsFirstOpen f rows b date None
  none_left day civil before early last e from =
      let most = up_to_last e from.0 in
      none_up_to day civil before early e from (omega (arith, signed_arith))

-- the days that are left
abbrev pub days_left : Civil → ℕ
days_left day = unsigned_abs (day_number last_day -ℤ day_number day)

one_less : (more less : ℤ) → more ≡ less +ℤ pos 1 → pos 0 ≤ℤ less → unsigned_abs less < unsigned_abs more
one_less (pos m) (pos n) is low = omega (arith, signed_arith)
one_less (negsuc m) (pos n) is low = absurd (omega (arith, signed_arith))
one_less more (negsuc n) is low = absurd (omega (arith, signed_arith))

fewer : (last day next : ℤ) → next ≡ day +ℤ pos 1 → (day +ℤ pos 1) ≤ℤ last
    → unsigned_abs (last -ℤ next) < unsigned_abs (last -ℤ day)
fewer last day next is within =
    one_less (last -ℤ day) (last -ℤ next) (omega (arith, signed_arith)) (omega (arith, signed_arith))

pub fewer_left : (day next : Civil) → day_number next ≡ day_number day +ℤ pos 1
    → ¬ (day_number last_day <ℤ (day_number day +ℤ pos 1)) → days_left next < days_left day
fewer_left day next is within =
    by_lt_z (day_number last_day) (day_number day +ℤ pos 1) (λ after. absurd (within after))
    (fewer (day_number last_day) (day_number day) (day_number next) is)

-- among the ledger's rows it is the same date
pub first_among : (L : Ledger) (rows : List Row) (f : Figures) (b : BillParts) (date : Civil)
    → filter (claimed_by b.family) rows ≡ rows_of L b.family → (o : Option Civil)
    → IsFirstOpen f rows b date o → IsFirstOpen f L.rows b date o
first_among L rows f b date has o = moved o
  where
    same : (d : Civil) → is_open f L.rows b d ≡ is_open f rows b d
    same d = ap not (sym (any_among L rows b.family has (is_too_soon f d b)))

    moved : (o : Option Civil) → IsFirstOpen f rows b date o → IsFirstOpen f L.rows b date o
    moved None is = λ e from. same e ∙ is e from
    moved (Some d) is = (is.0, same d ∙ is.1, λ e from sooner. same e ∙ is.2 e from sooner)
