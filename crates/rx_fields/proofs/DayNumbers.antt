-- The numbers of the calendar's days: the last of them, their order, and the day that the library has for one.
use Rattle.std.proofs.Common.{◌≡◌, ℕ, ltb, leb, ℤ, pos, ◌+ℤ◌, ◌<ℤ◌, ◌≤ℤ◌, ap, ◌∙◌, arith, w16, to_z, of_z, FitsSigned}
use Rattle.std.proofs.Common.{negsuc, nat_abs, refl, Fits, w64, T}
use lib.Signed.{non_neg}
use Rattle.std.proofs.lemmas.Bool.{leb-true, ltb-true}
use Rattle.std.proofs.lemmas.Int.{by_lt_z, to_z-of_z}
use Rattle.jiff_core.specs.Calendar.{IsCivilDate, IsEpochDay, days_in_month}
use Rattle.jiff_core.specs.Date.{epoch_day}
use Rattle.jiff_core.specs.declared.civil.date.Date.{Date}
use Rattle.jiff_core.proofs.SignedLemmas.{fits_between}
pub use Rattle.jiff_core.proofs.SignedLemmas.{signed_arith}
use Rattle.jiff_core.proofs.CalendarLemmas.{days_from_civil-day_count, day_count_bounds, day_count-lt_year}
use Rattle.jiff_core.proofs.DateLemmas.{civil, days_from_civil-max, epoch_day_range, epoch_day_injective}
use Rattle.rx_fields.specs.Calendar.{Civil, IsCivil, day_number, last_day}
use Rattle.rx_fields.proofs.DateLaws.{all_five, parts}

-- the last day's number
pub last_number : day_number last_day ≡ pos 2_932_896
last_number = days_from_civil-max

-- a day of the calendar is one of the library's dates
pub library_has : (c : Civil) → IsCivil c → IsCivilDate (pos c.year) c.month c.day
library_has c h =
    let is = all_five (ltb c.year 10000) (leb 1 c.month) (leb c.month 12) (leb 1 c.day)
    (leb c.day (days_in_month (pos c.year) c.month)) h in
    let year = ltb-true c.year 10000 is.0 in (
      (omega (arith, signed_arith), omega (arith, signed_arith)),
      (leb-true 1 c.month is.1, leb-true c.month 12 is.2),
      (leb-true 1 c.day is.3, leb-true c.day (days_in_month (pos c.year) c.month) is.4),
    )

-- no day is after the last
pub up_to_last : (c : Civil) → IsCivil c → day_number c ≤ℤ day_number last_day
up_to_last c h =
    rw last_number (omega (
      arith,
      signed_arith,
      days_from_civil-day_count (pos c.year) c.month c.day,
      day_count_bounds _ _ _ (library_has c h),
    ))

-- a date that is not before one of the years from 0 on is of such a year as well
pub not_negative : (date later : Date) → pos 0 ≤ℤ date.year → epoch_day date ≤ℤ epoch_day later → pos 0 ≤ℤ later.year
not_negative date later not_below is =
    by_lt_z later.year (pos 0)
    (λ before.
    absurd (omega (
      arith,
      signed_arith,
      days_from_civil-day_count later.year later.month later.day,
      days_from_civil-day_count date.year date.month date.day,
      day_count-lt_year later.year later.month later.day date.year date.month date.day (civil later) date.day_in.0
          (omega (arith, signed_arith)),
    )))
    (λ at_least. at_least)

as_date : (c : Civil) → IsCivil c → Date
as_date c h =
    let has = library_has c h in
    record { year = pos c.year; month = c.month; day = c.day; year_in = has.0; month_in = has.1; day_in = has.2 }

same_year : (y x : ℕ) → pos y ≡ pos x → y ≡ x
same_year y x is = omega (arith, signed_arith)

-- days of one number are one day
pub same_number : (a b : Civil) → IsCivil a → IsCivil b → day_number a ≡ day_number b → a ≡ b
unfolding as_date
same_number a b in_a in_b is =
    let same = epoch_day_injective (as_date a in_a) (as_date b in_b) is in
    let year = same_year a.year b.year same.0 in
    (λ j. parts (year j) (same.1 j) (same.2 j))

-- its year, as a number without a sign
nat_of : (y : ℤ) → pos 0 ≤ℤ y → pos (nat_abs y) ≡ y
nat_of (pos n) is = refl
nat_of (negsuc n) is = absurd (omega (arith, signed_arith))

year_kept : (date : Date) → to_z w16 (of_z w16 date.year) ≡ date.year
year_kept date = to_z-of_z w16 date.year (fits_between w16 date.year (omega (arith, signed_arith, date.year_in)))

pub year_is : (date : Date) → pos 0 ≤ℤ date.year → pos (nat_abs (to_z w16 (of_z w16 date.year))) ≡ date.year
year_is date is = rw (year_kept date) (nat_of date.year is)

pub year_fits : (date : Date) → pos 0 ≤ℤ date.year
    → T (non_neg (to_z w16 (of_z w16 date.year))) × Fits w16 (nat_abs (to_z w16 (of_z w16 date.year)))
year_fits date is = rw (year_kept date) (small date.year is date.year_in.1)
  where
    small : (y : ℤ) → pos 0 ≤ℤ y → y ≤ℤ pos 9999 → T (non_neg y) × Fits w16 (nat_abs y)
    small (pos n) is most = (tt, omega (arith, signed_arith))
    small (negsuc n) is most = absurd (omega (arith, signed_arith))

-- ---- a day's number and a number of days

-- what is too large for a number with a sign is after the last day
pub too_large : (date : Date) (days : ℕ) → ¬ (FitsSigned w64 (pos days)) → day_number last_day <ℤ (epoch_day date +ℤ pos days)
too_large date days large =
    rw last_number (by_lt_z (pos 2_932_896) (epoch_day date +ℤ pos days) (λ after. after)
    (λ before. absurd (large (fits_between w64 (pos days) (omega (arith, signed_arith, epoch_day_range date))))))

-- and so is what the library has no date for
pub no_date : (date : Date) (days : ℕ) → ¬ (IsEpochDay (epoch_day date +ℤ pos days))
    → day_number last_day <ℤ (epoch_day date +ℤ pos days)
no_date date days none =
    rw last_number (by_lt_z (pos 2_932_896) (epoch_day date +ℤ pos days) (λ after. after)
    (λ before. absurd (none (omega (arith, signed_arith, epoch_day_range date), before))))

-- a number with a sign is the one that it is made of
pub same_days : (n : ℤ) (days : ℕ) → FitsSigned w64 (pos days) × (n ≡ pos days) → to_z w64 (of_z w64 n) ≡ pos days
same_days n days is = ap (λ z. to_z w64 (of_z w64 z)) is.1 ∙ to_z-of_z w64 (pos days) is.0

-- what is no later than a day is in the calendar, and after the last day is none
pub not_after : (date : Date) (n : ℤ) → epoch_day date ≡ n → ¬ (day_number last_day <ℤ n)
not_after date n is after =
    let late = rw last_number at after in
    absurd (omega (arith, signed_arith, epoch_day_range date))
