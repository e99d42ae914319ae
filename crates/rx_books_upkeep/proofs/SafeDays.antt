-- From which day on a claim is over, by the numbers of days.
use Rattle.std.proofs.Common.{◌≡◌, ℕ, ◌+◌, ◌*◌, ◌/◌, ◌%◌, ◌<◌, ◌≤◌, min, max, Bool, true, false, not, Option, Some, None, refl, sym, subst, ◌∙◌, inl, inr, arith, lit<, lit≤}
use Rattle.std.proofs.Common.{ℤ, pos, ◌+ℤ◌, ◌-ℤ◌, ◌*ℤ◌, ◌<ℤ◌, ◌≤ℤ◌}
use Rattle.std.specs.Prelude.{◌&&◌, ◌↔◌, int_le, int_lt, nat_lt, IfSome, IsNone, MatchOption, Ok, codes}
use Rattle.std.proofs.lemmas.Bool.{cases_Bool, ltb-false, ltb-true}
use Rattle.std.proofs.lemmas.Grind.{div_ceil_times}
use Rattle.std.proofs.lemmas.Int.{by_lt_z, ints}
use Rattle.jiff_core.specs.Calendar.{day_count}
use Rattle.jiff_core.proofs.CalendarLemmas.{days_from_civil-day_count, day_count-lt_year, day_count-lt_month, day_count-day}
use Rattle.rx_fields.specs.Calendar.{Civil, IsCivil, date_of, day_number, last_day}
use Rattle.rx_fields.proofs.DayNumbers.{library_has, signed_arith, up_to_last}
use Rattle.rx_ledger.specs.declared.row.Row.{Row}
use Rattle.rx_books_upkeep.specs.Ageing.{is_over}

-- ---- tests of numbers

lt_true : (a b : ℤ) → a <ℤ b → int_lt a b ≡ true
lt_true a b h = grind (arith, ints)

lt_false : (a b : ℤ) → b ≤ℤ a → int_lt a b ≡ false
lt_false a b h = grind (arith, ints)

pub le_true : (a b : ℤ) → a ≤ℤ b → int_le a b ≡ true
le_true a b h = grind (arith, ints)

le_false : (a b : ℤ) → b <ℤ a → int_le a b ≡ false
le_false a b h = grind (arith, ints)

pub le_from : (a b : ℤ) → int_le a b ≡ true → a ≤ℤ b
le_from a b h = grind (arith, ints)

and_false : (a : Bool) → (a && false) ≡ false
and_false true = refl
and_false false = refl

-- ---- a claim

-- whole hundreds, as many as needed but one at least
pub record IsRounded (needed n : ℕ) : Type 0 where
  pub some : 1 ≤ n
  pub enough : needed ≤ n * 100
  pub least : 1 < n → n * 100 < needed + 100

pub rounded : (needed q n : ℕ) → q ≡ needed / 100 + min 1 (needed % 100) → n ≡ max q 1 → IsRounded needed n
rounded needed q n is larger =
    let times : (needed ≤ q * 100) × (q * 100 < needed + 100) =
    subst (λ m. (needed ≤ m * 100) × (m * 100 < needed + 100)) (sym is) (div_ceil_times needed 100 (lit< tt)) in
    record {
      some = omega (arith, larger);
      enough = omega (arith, larger, times.0);
      least = λ past. omega (arith, larger, past, times.1);
    }

over_at : (date day first : ℤ) (needed n : ℕ) → first ≡ date +ℤ pos n → 1 ≤ n → needed ≤ n * 100
    → (1 < n → n * 100 < needed + 100)
    → (int_lt (pos 0) (day -ℤ date) && not (int_lt ((day -ℤ date) *ℤ pos 100) (pos needed))) ≡ int_le first day
over_at date day first needed n is one enough least =
    by_lt_z day first
    (λ before.
    by_lt_z (pos 0) (day -ℤ date)
    (λ some.
    let past : 1 < n = omega (arith, ints) in
    let gap : ((day -ℤ date) *ℤ pos 100) <ℤ pos needed = omega (arith, ints, least past) in
    let soon : int_lt ((day -ℤ date) *ℤ pos 100) (pos needed) ≡ true = lt_true ((day -ℤ date) *ℤ pos 100) (pos needed) gap in
    rw (soon, le_false first day before) (and_false (int_lt (pos 0) (day -ℤ date))))
    (λ none. rw (lt_false (pos 0) (day -ℤ date) none, le_false first day before) refl))
    (λ from.
    let passed : pos 0 <ℤ (day -ℤ date) = omega (arith, ints) in
    let gap : pos needed ≤ℤ ((day -ℤ date) *ℤ pos 100) = omega (arith, ints) in
    let some : int_lt (pos 0) (day -ℤ date) ≡ true = lt_true (pos 0) (day -ℤ date) passed in
    let late : int_lt ((day -ℤ date) *ℤ pos 100) (pos needed) ≡ false = lt_false ((day -ℤ date) *ℤ pos 100) (pos needed) gap in
    rw (some, late, le_true first day from) refl)

pub over_from_is : (percent : ℕ) (r : Row) (n : ℕ) (o : Option Civil)
    → IfSome o (λ day. day_number day ≡ day_number r.key.date +ℤ pos n)
    → IsNone o ↔ (day_number last_day <ℤ (day_number r.key.date +ℤ pos n))
    → 1 ≤ n → r.days * percent ≤ n * 100 → (1 < n → n * 100 < r.days * percent + 100)
    → MatchOption o ((day : Civil) → IsCivil day → is_over percent day r ≡ false)
    (λ first. (day : Civil) → is_over percent day r ≡ int_le (day_number first) (day_number day))
over_from_is percent r n None value none one enough least = λ day civil.
    let after : day_number last_day <ℤ (day_number r.key.date +ℤ pos n) = none.0 refl in
    let within : day_number day ≤ℤ day_number last_day = up_to_last day civil in
    let before : day_number day <ℤ (day_number r.key.date +ℤ pos n) = omega (arith, ints) in
    over_at (day_number r.key.date) (day_number day) (day_number r.key.date +ℤ pos n) (r.days * percent) n refl one enough least
    ∙ le_false (day_number r.key.date +ℤ pos n) (day_number day) before
over_from_is percent r n (Some first) value none one enough least = λ day.
    over_at (day_number r.key.date) (day_number day) (day_number first) (r.days * percent) n value one enough least

-- ---- the calendar's first day

abbrev pub first_date : Civil
first_date = record { year = 0; month = 1; day = 1 }

pub first_is_civil : IsCivil first_date
first_is_civil = refl

pub first_read : date_of (codes "00000101") ≡ Ok first_date
first_read = refl

pub from_first : (day : Civil) → IsCivil day → day_number first_date ≤ℤ day_number day
from_first day civil =
    let has = library_has day civil in
    let own = library_has first_date first_is_civil in
    let counted = days_from_civil-day_count (pos day.year) day.month day.day in
    let first_counted = days_from_civil-day_count (pos 0) 1 1 in
    by_lt_z (pos 0) (pos day.year)
    (λ later. omega (
      arith,
      signed_arith,
      counted,
      first_counted,
      day_count-lt_year (pos 0) 1 1 (pos day.year) day.month day.day own has.2.0 later,
    ))
    (λ same.
    let year : pos day.year ≡ pos 0 = omega (arith, signed_arith) in
    elim (cases_Bool (nat_lt 1 day.month)) [
      | inl t ↦
          let more : 1 < day.month = ltb-true 1 day.month t in
          let lt : day_count (pos 0) 1 1 < day_count (pos day.year) day.month day.day =
          subst (λ y. day_count (pos 0) 1 1 < day_count y day.month day.day) (sym year)
          (day_count-lt_month (pos 0) 1 1 day.month day.day own has.2.0 more) in
          omega (arith, signed_arith, counted, first_counted, lt)
      | inr f ↦
          let month : day.month ≡ 1 = omega (arith, ltb-false 1 day.month f, has.1.0) in
          let days : day_count (pos 0) 1 1 + day.day ≡ day_count (pos day.year) day.month day.day + 1 =
          subst (λ y. day_count (pos 0) 1 1 + day.day ≡ day_count y day.month day.day + 1) (sym year)
          (subst (λ m. day_count (pos 0) 1 1 + day.day ≡ day_count (pos 0) m day.day + 1) (sym month)
          (day_count-day (pos 0) 1 1 day.day (lit≤ tt) has.2.0)) in
          omega (arith, signed_arith, counted, first_counted, days, has.2.0)
    ])
