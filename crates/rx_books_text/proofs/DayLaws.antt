-- A day is read as it is spelled.
use Rattle.std.proofs.Common.{◌≡◌, ℕ, ◌+◌, ◌^◌, ◌<◌, ◌≤◌, true, ◌&&◌, eqb, ltb, List, [], ◌∷◌, ◌++◌, length, take, drop, Some}
use Rattle.std.proofs.Common.{Ok, refl, sym, ap, subst, ◌∙◌, arith, length-append, length-take, length-drop, pos}
use Rattle.std.specs.Prelude.{slice_range}
use Rattle.std.proofs.lemmas.Bool.{and_parts, leb-true, eqb-true, ltb-true}
use Rattle.std.proofs.lemmas.List.Folds.{list_all-append}
use Rattle.std.proofs.lemmas.List.{take-append-drop}
use Rattle.jiff_core.specs.Calendar.{days_in_month}
use Rattle.jiff_core.proofs.CalendarLemmas.{days_in_month_bounds}
use Rattle.rx_fields.specs.declared.fault.FieldFault.TheVariants as field
use Rattle.rx_fields.specs.Calendar.{Civil, IsCivil, is_civil, civil_of, date_of, date_text}
use Rattle.rx_text.specs.Bytes.{is_digit, all_digits}
use Rattle.rx_fields.specs.Digits.{digits_text}
use Rattle.rx_fields.proofs.DigitLaws.{length-digits_text, digits_text-all, digits_text-number}
use Rattle.rx_books_text.specs.LineReading.{day_in}
use Rattle.rx_books_text.proofs.Steps.{ok_of, ok_same, passed, held, IsInside, digits_inside}
use Rattle.rx_books_text.proofs.NumberLaws.{digits_back}

-- eight bytes are four, two and two
pub eight : (bs : List ℕ) → length bs ≡ 8 → bs ≡ slice_range bs 0 4 ++ (slice_range bs 4 6 ++ slice_range bs 6 8)
eight (a ∷ b ∷ c ∷ d ∷ e ∷ f ∷ g ∷ h ∷ []) len = refl
eight [] len = absurd (omega arith)
eight (a ∷ []) len = absurd (omega arith)
eight (a ∷ b ∷ []) len = absurd (omega arith)
eight (a ∷ b ∷ c ∷ []) len = absurd (omega arith)
eight (a ∷ b ∷ c ∷ d ∷ []) len = absurd (omega arith)
eight (a ∷ b ∷ c ∷ d ∷ e ∷ []) len = absurd (omega arith)
eight (a ∷ b ∷ c ∷ d ∷ e ∷ f ∷ []) len = absurd (omega arith)
eight (a ∷ b ∷ c ∷ d ∷ e ∷ f ∷ g ∷ []) len = absurd (omega arith)
eight (a ∷ b ∷ c ∷ d ∷ e ∷ f ∷ g ∷ h ∷ i ∷ rest) len = absurd (omega arith)

pub part_digits : (bs : List ℕ) (i n : ℕ) → all_digits bs ≡ true → all_digits (take n (drop i bs)) ≡ true
part_digits bs i n digits =
    let behind = (and_parts (all_digits (take i bs)) (all_digits (drop i bs))
    (sym (list_all-append is_digit (take i bs) (drop i bs)) ∙ (ap all_digits (take-append-drop i bs) ∙ digits))).1 in
    (and_parts (all_digits (take n (drop i bs))) (all_digits (drop n (drop i bs)))
    (sym (list_all-append is_digit (take n (drop i bs)) (drop n (drop i bs)))
    ∙ (ap all_digits (take-append-drop n (drop i bs)) ∙ behind))).0

pub part_length : (bs : List ℕ) (i n : ℕ) → i + n ≤ length bs → length (take n (drop i bs)) ≡ n
part_length bs i n le = omega (arith, length-take n (drop i bs), length-drop i bs)

pub date_back : (bs : List ℕ) → length bs ≡ 8 → all_digits bs ≡ true → bs ≡ date_text (civil_of bs)
unfolding date_text
date_back bs len digits =
    let year = (digits_back (slice_range bs 0 4) 4 (part_length bs 0 4 (omega arith)) (part_digits bs 0 4 digits)).0 in
    let month = (digits_back (slice_range bs 4 6) 2 (part_length bs 4 2 (omega arith)) (part_digits bs 4 2 digits)).0 in
    let day = (digits_back (slice_range bs 6 8) 2 (part_length bs 6 2 (omega arith)) (part_digits bs 6 2 digits)).0 in
    eight bs len ∙ (λ j. sym year j ++ (sym month j ++ sym day j))

pub day_takes : (bs : List ℕ) (c : Civil) → day_in bs ≡ Some c → (bs ≡ date_text c) × IsCivil c
unfolding day_in
day_takes bs c e =
    let read = ok_of (date_of bs) c e in
    let some = passed (eqb (length bs) 0) field.Empty _ c read in
    let short = passed (ltb 8 (length bs)) field.TooLong _ c some.1 in
    let digits = held (all_digits bs) field.NotDigit _ c short.1 in
    let there = held (eqb (length bs) 8 && is_civil (civil_of bs)) field.NotDate (Ok (civil_of bs)) c digits.1 in
    let parts = and_parts (eqb (length bs) 8) (is_civil (civil_of bs)) there.0 in
    let is : civil_of bs ≡ c = ok_same (civil_of bs) c there.1 in (
      date_back bs (eqb-true (length bs) 8 parts.0) digits.0 ∙ ap date_text is,
      subst IsCivil is parts.1,
    )

pub length-date_text : (c : Civil) → length (date_text c) ≡ 8
unfolding date_text
length-date_text c =
    omega (
      arith,
      length-append (digits_text 4 c.year) (digits_text 2 c.month ++ digits_text 2 c.day),
      length-append (digits_text 2 c.month) (digits_text 2 c.day),
      length-digits_text 4 c.year,
      length-digits_text 2 c.month,
      length-digits_text 2 c.day,
    )

pub date_text_digits : (c : Civil) → all_digits (date_text c) ≡ true
unfolding date_text
date_text_digits c =
    rw (
      list_all-append is_digit (digits_text 4 c.year) (digits_text 2 c.month ++ digits_text 2 c.day),
      list_all-append is_digit (digits_text 2 c.month) (digits_text 2 c.day),
      digits_text-all 4 c.year,
      digits_text-all 2 c.month,
      digits_text-all 2 c.day,
    ) refl

pub day_inside : (c : Civil) → IsInside (date_text c)
day_inside c = digits_inside (date_text c) (date_text_digits c)

-- the parts of a day that is written
pub civil_again : (c : Civil) → c.year < 10 ^ 4 → c.month < 10 ^ 2 → c.day < 10 ^ 2 → civil_of (date_text c) ≡ c
unfolding date_text digits_text
civil_again c year month day = λ j. record {
  year = digits_text-number 4 c.year year j;
  month = digits_text-number 2 c.month month j;
  day = digits_text-number 2 c.day day j;
}

-- a day's fields are small
pub small_civil : (c : Civil) → IsCivil c → (c.year < 10 ^ 4) × ((c.month < 10 ^ 2) × (c.day < 10 ^ 2))
small_civil c civil =
    let day = and_parts _ _ civil in
    let one = and_parts _ _ day.0 in
    let month = and_parts _ _ one.0 in
    let first = and_parts _ _ month.0 in
    let few = (days_in_month_bounds (pos c.year) c.month).0 in
    let last : c.day ≤ days_in_month (pos c.year) c.month = leb-true _ _ day.1 in
    let months : c.month ≤ 12 = leb-true _ _ month.1 in
    let years : c.year < 10_000 = ltb-true _ _ first.0 in
    (years, (omega (arith, months), omega (arith, few, last)))

pub day_again : (c : Civil) → IsCivil c → day_in (date_text c) ≡ Some c
unfolding day_in
day_again c civil =
    let small = small_civil c civil in
    let parts = civil_again c small.0 small.1.0 small.1.1 in
    let there : is_civil (civil_of (date_text c)) ≡ true = subst IsCivil (sym parts) civil in
    rw (length-date_text c, date_text_digits c, there) (ap Some parts)
