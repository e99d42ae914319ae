-- Meaning: days of the civil calendar, years 0000 to 9999.
use Rattle.std.specs.Prelude.{◌≡◌, ℕ, Bool, true, ◌&&◌, nat_lt, nat_le, ◌==◌, if◌then◌else◌, ℤ, pos}
use Rattle.std.specs.Prelude.{List, ◌++◌, length, slice_range, Result, Ok, Err}
use Rattle.std.specs.Ordering.{nat_cmp, ordering_then}
use Rattle.std.specs.declared.cmp.Ordering.{Ordering}
use Rattle.jiff_core.specs.Calendar.{days_in_month, days_from_civil}
use Rattle.rx_fields.specs.declared.fault.FieldFault.{FieldFault}
use Rattle.rx_fields.specs.declared.fault.FieldFault.TheVariants.{Empty, TooLong, NotDigit, NotDate}
use Rattle.rx_text.specs.Bytes.{all_digits}
use Rattle.rx_fields.specs.Digits.{number, digits_text}

-- a year, a month from 1 and a day of the month from 1
pub record Civil : Type 0 where
  pub year : ℕ
  pub month : ℕ
  pub day : ℕ

-- the calendar has this day
abbrev pub is_civil : Civil → Bool
is_civil c =
    nat_lt c.year 10000 && nat_le 1 c.month && nat_le c.month 12
    && nat_le 1 c.day && nat_le c.day (days_in_month (pos c.year) c.month)

-- `is_civil` as a fact
abbrev pub IsCivil : Civil → Type 0
IsCivil c = is_civil c ≡ true

-- the number of a day: 1970-01-01 is 0, and each day is one more than the day before
abbrev pub day_number : Civil → ℤ
day_number c = days_from_civil (pos c.year) c.month c.day

-- the last day: 9999-12-31
abbrev pub last_day : Civil
last_day = record { year = 9999; month = 12; day = 31 }

-- the parts of eight digits CCYYMMDD
abbrev pub civil_of : List ℕ → Civil
civil_of bs =
    record {
      year = number (slice_range bs 0 4);
      month = number (slice_range bs 4 6);
      day = number (slice_range bs 6 8);
    }

-- the day of eight digits, or the first fault
abbrev pub date_of : List ℕ → Result Civil FieldFault
date_of bs =
    if length bs == 0 then Err Empty
    else (if nat_lt 8 (length bs) then Err TooLong
    else (if all_digits bs then (if length bs == 8 && is_civil (civil_of bs) then Ok (civil_of bs) else Err NotDate)
    else Err NotDigit))

-- the one spelling of a day: CCYYMMDD
unfoldable pub date_text : Civil → List ℕ
date_text c = digits_text 4 c.year ++ (digits_text 2 c.month ++ digits_text 2 c.day)

-- by year, then month, then day
abbrev pub day_cmp : Civil → Civil → Ordering
day_cmp a b = ordering_then (nat_cmp a.year b.year) (ordering_then (nat_cmp a.month b.month) (nat_cmp a.day b.day))
