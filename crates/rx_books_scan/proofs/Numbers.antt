-- Numbers at the front of bytes.
use Rattle.std.proofs.Common.{◌≡◌, ℕ, ◌+◌, ◌-◌, ◌<◌, ◌≤◌, ◌^◌, true, false, List, [], ◌∷◌, length, get_or}
use Rattle.std.proofs.Common.{take, Some, Result, refl, sym, ap, subst, ◌∙◌, arith, length-take}
use Rattle.std.specs.Fmt.{decimal}
use Rattle.std.specs.Result.{result_ok}
use Rattle.std.proofs.lemmas.Bool.{le-leb}
use Rattle.std.proofs.lemmas.Bool.Decides.{nat_tests}
use Rattle.std.proofs.lemmas.Fmt.{decimal_digit}
use Rattle.std.proofs.lemmas.List.{take_more}
use Rattle.std.proofs.lemmas.List.Folds.{list_all-append}
use Rattle.rx_fields.specs.declared.fault.FieldFault.{FieldFault}
use Rattle.rx_fields.specs.Bounds.{bounded}
use Rattle.rx_fields.specs.Calendar.{Civil, date_of, date_text}
use Rattle.rx_text.specs.Bytes.{is_digit, all_digits}
use Rattle.rx_fields.specs.Digits.{number, digits_text}
use Rattle.rx_fields.proofs.DigitLaws.{digit_at, power_le}
use Rattle.rx_books_text.specs.LineReading.{begins_zero, day_in}
use Rattle.rx_books_text.proofs.DayLaws.{day_takes}
use Rattle.rx_books_text.proofs.NumberLaws.{bounded_is, digits_back, plain_decimal}
use Rattle.rx_books_scan.specs.Fields.{AreDigits, is_plain}

-- one more digit
pub digits_more : (bs : List ℕ) (i : ℕ) → i < length bs → all_digits (take i bs) ≡ true → 48 ≤ get_or bs i 0
    → get_or bs i 0 ≤ 57 → all_digits (take (i + 1) bs) ≡ true
digits_more bs i lt digits low high =
    let digit : is_digit (get_or bs i 0) ≡ true = rw (le-leb 48 (get_or bs i 0) low, le-leb (get_or bs i 0) 57 high) refl in
    rw (take_more bs i 0 lt, list_all-append is_digit (take i bs) (get_or bs i 0 ∷ []), digits, digit) refl

-- plain digits are the one spelling of their number
pub plain_text : (bs : List ℕ) → length bs ≤ 18 → all_digits bs ≡ true → is_plain bs ≡ true → bs ≡ decimal (number bs)
plain_text [] few digits plain = absurd cc
plain_text (b ∷ []) few digits plain =
    let small = digit_at (b ∷ []) 0 digits (omega arith) in
    let value : number (b ∷ []) ≡ b - 48 = omega arith in
    let back : 48 + (b - 48) ≡ b = omega arith in
    sym (ap decimal value ∙ (decimal_digit (b - 48) (omega arith) ∙ ap (λ (c : ℕ). c ∷ []) back))
plain_text (b ∷ c ∷ bs) few digits plain =
    let first : begins_zero (b ∷ c ∷ bs) ≡ false = grind (arith, nat_tests) in
    sym (plain_decimal (length (c ∷ bs)) (b ∷ c ∷ bs) (omega arith) refl digits first).0

-- eighteen digits stand for less than 10^18
pub digits_small : (bs : List ℕ) → length bs ≤ 18 → all_digits bs ≡ true → number bs < 10 ^ 18
digits_small bs few digits = omega (arith, (digits_back bs (length bs) refl digits).1, power_le (length bs) 18 few)

-- a field of plain digits is the one spelling of their number
pub number_text : (bs field : List ℕ) (n at : ℕ) → AreDigits bs n at → field ≡ take at bs → is_plain field ≡ true
    → (field ≡ decimal n) × (n < 10 ^ 18)
number_text bs field n at are front plain =
    let len : length field ≤ 18 = omega (arith, ap length front, length-take at bs, are.few) in
    let digits : all_digits field ≡ true = ap all_digits front ∙ are.digits in
    let value : number field ≡ n = ap number front ∙ sym are.value in
    (plain_text field len digits plain ∙ ap decimal value, subst (λ (m : ℕ). m < 10 ^ 18) value (digits_small field len digits))

-- a field of fifteen digits is the one spelling of an authorization number
pub authorization_text : (bs field : List ℕ) (n m at : ℕ) → AreDigits bs n at → at ≡ 15 → field ≡ take at bs
    → Some m ≡ bounded 0 999_999_999_999_999 n → field ≡ digits_text 15 m
authorization_text bs field n m at are fifteen front e =
    let len : length field ≡ 15 = omega (arith, ap length front, length-take at bs, are.in_range, fifteen) in
    let digits : all_digits field ≡ true = ap all_digits front ∙ are.digits in
    let value : number field ≡ m =
    ap number front ∙ sym are.value ∙ (bounded_is 0 999_999_999_999_999 n m (sym e)).0 in
    sym (digits_back field 15 len digits).0 ∙ ap (digits_text 15) value

-- a field that is read as a day is its spelling
pub day_text : (field : List ℕ) (c : Civil) (r : Result Civil FieldFault) → r ≡ date_of field → Some c ≡ result_ok r
    → field ≡ date_text c
unfolding day_in
day_text field c r read e = (day_takes field c (ap result_ok (sym read) ∙ sym e)).0
