-- The days of the calendar, and those that the library of dates makes.
use Rattle.std.proofs.Common.{◌≡◌, ℕ, ◌+◌, ◌^◌, ◌<◌, ◌≤◌, Bool, true, false, ◌&&◌, ltb, leb}
use Rattle.std.proofs.Common.{List, length, take, drop, length-take, length-drop}
use Rattle.std.proofs.Common.{Ok, Err, pos, ◌≤ℤ◌, sym, ap, ◌∙◌, refl, arith, w8, w16}
use Rattle.std.specs.Prelude.{slice_range}
use Rattle.std.proofs.lemmas.Bool.{and_from, and_parts, lt-ltb, le-leb, leb-true}
use Rattle.std.proofs.lemmas.Int.{ints, to_z_pos}
use mir.Val.{to_z}
use Rattle.jiff_core.specs.Calendar.{IsDate, days_in_month}
use Rattle.rx_text.specs.Bytes.{all_digits}
use Rattle.rx_fields.specs.Digits.{number}
use Rattle.rx_fields.specs.Calendar.{Civil, IsCivil, is_civil, civil_of, date_of}
use Rattle.rx_fields.specs.declared.fault.FieldFault.TheVariants.{NotDate}

-- a year, a month and a day
abbrev pub parts : ℕ → ℕ → ℕ → Civil
parts y m d = record { year = y; month = m; day = d }

from_signed : {a b : ℕ} → pos a ≤ℤ pos b → a ≤ b
from_signed h = omega (arith, ints)

to_signed : {a b : ℕ} → leb a b ≡ true → pos a ≤ℤ pos b
to_signed {a} {b} h = let le = leb-true a b h in omega (arith, ints)

-- what the library makes a date of is in the calendar
pub civil_made : (y m d : ℕ) → y < 10000 → m < 100 → d < 100 → IsDate (to_z w16 y) (to_z w8 m) (to_z w8 d)
    → IsCivil (parts y m d)
civil_made y m d hy hm hd h =
    let date : IsDate (pos y) (pos m) (pos d) =
    rw (to_z_pos w16 y (omega arith), to_z_pos w8 m (omega arith), to_z_pos w8 d (omega arith)) at h in
    let month = and_from _ _ (and_from _ _ (lt-ltb y 10000 hy) (le-leb 1 m (from_signed date.1.0)))
    (le-leb m 12 (from_signed date.1.1)) in
    and_from _ _ (and_from _ _ month (le-leb 1 d (from_signed date.2.0)))
    (le-leb d (days_in_month (pos y) m) (from_signed date.2.1))

pub all_five : (a b c d e : Bool) → (a && b && c && d && e) ≡ true
    → (a ≡ true) × (b ≡ true) × (c ≡ true) × (d ≡ true) × (e ≡ true)
all_five a b c d e h =
    let four = and_parts (a && b && c && d) e h in
    let three = and_parts (a && b && c) d four.0 in
    let two = and_parts (a && b) c three.0 in
    let one = and_parts a b two.0 in
    (one.0, one.1, two.1, three.1, four.1)

-- the library makes a date of what is in the calendar
pub date_made : (y m d : ℕ) → y < 10000 → m < 100 → d < 100 → IsCivil (parts y m d)
    → IsDate (to_z w16 y) (to_z w8 m) (to_z w8 d)
date_made y m d hy hm hd h =
    let is = all_five (ltb y 10000) (leb 1 m) (leb m 12) (leb 1 d) (leb d (days_in_month (pos y) m)) h in
    rw (to_z_pos w16 y (omega arith), to_z_pos w8 m (omega arith), to_z_pos w8 d (omega arith)) (
      (omega (arith, ints), omega (arith, ints)),
      (to_signed is.1, to_signed is.2),
      (to_signed is.3, to_signed is.4),
    )

-- a number of n digits is below their power of ten
pub part_below : (bs : List ℕ) (from n v : ℕ) → from + n ≤ length bs → v < 10 ^ length (take n (drop from bs)) → v < 10 ^ n
part_below bs from n v within below =
    let all : length (take n (drop from bs)) ≡ n = omega (arith, length-take n (drop from bs), length-drop from bs) in
    rw all at below

-- eight digits are the date of their parts
pub date_is : (bs : List ℕ) (y m d : ℕ) → length bs ≤ 8 → 8 ≤ length bs → all_digits bs ≡ true
    → y ≡ number (slice_range bs 0 4) → m ≡ number (slice_range bs 4 6) → d ≡ number (slice_range bs 6 8)
    → IsCivil (parts y m d) → Ok (parts y m d) ≡ date_of bs
date_is bs y m d few many digits is_y is_m is_d civil =
    let eight : length bs ≡ 8 = omega arith in
    let same : parts y m d ≡ civil_of bs = (λ j. parts (is_y j) (is_m j) (is_d j)) in
    let here : is_civil (civil_of bs) ≡ true = ap is_civil (sym same) ∙ civil in
    ap Ok same ∙ sym (rw (eight, digits, here) refl)

-- eight digits whose parts aren't in the calendar are no date
pub date_isnt : (bs : List ℕ) (y m d : ℕ) → length bs ≤ 8 → 8 ≤ length bs → all_digits bs ≡ true
    → y ≡ number (slice_range bs 0 4) → m ≡ number (slice_range bs 4 6) → d ≡ number (slice_range bs 6 8)
    → is_civil (parts y m d) ≡ false → Err NotDate ≡ date_of bs
date_isnt bs y m d few many digits is_y is_m is_d civil =
    let eight : length bs ≡ 8 = omega arith in
    let same : parts y m d ≡ civil_of bs = (λ j. parts (is_y j) (is_m j) (is_d j)) in
    let here : is_civil (civil_of bs) ≡ false = ap is_civil (sym same) ∙ civil in
    sym (rw (eight, digits, here) refl)
