-- Overpunched amounts are read as they were written.
use Rattle.std.proofs.Common.{◌≡◌, ℕ, suc, ◌+◌, ◌-◌, ◌*◌, ◌/◌, ◌%◌, ◌^◌, ◌<◌, ◌≤◌, Bool, true, false, eqb, ltb}
use Rattle.std.proofs.Common.{List, [], ◌∷◌, ◌++◌, length, get_or, take, drop, length-append, Ok, Some}
use Rattle.std.proofs.Common.{ℤ, pos, negsuc, unsigned_abs, refl, arith, add-zero}
use Rattle.std.proofs.lemmas.Bool.{le-ltb}
use Rattle.std.proofs.lemmas.Bool.Decides.{nat_tests}
use Rattle.std.proofs.lemmas.Grind.{common_steps}
use Rattle.std.proofs.lemmas.List.{take_at, get_or-drop}
use Rattle.rx_text.specs.Bytes.{all_digits}
use Rattle.rx_fields.specs.Digits.{number, digits_text}
use Rattle.rx_fields.specs.Amount.{signed_of, signed_text, with_last, last_of, last_char, signed}
use Rattle.rx_fields.proofs.DigitLaws.{length-digits_text, digits_text-all, digits_text-number}

-- the amount of seven digits and a last character
signed_push : (front : List ℕ) (b : ℕ) → length front ≡ 7 → all_digits front ≡ true
    → signed_of (front ++ b ∷ []) ≡ with_last (number front) (last_of b)
signed_push front b len digits =
    let whole : length (front ++ b ∷ []) ≡ 8 = omega (arith, length-append front (b ∷ [])) in
    let cut : take 7 (front ++ b ∷ []) ≡ front = take_at front (b ∷ []) 7 len in
    let last : get_or (front ++ b ∷ []) 7 0 ≡ b = grind (arith, common_steps) in
    rw (whole, cut, digits, last) refl

-- a last character gives back its sign and its digit
last_again : (negative : Bool) (d : ℕ) → d < 10 → last_of (last_char negative d) ≡ Some (negative, d)
last_again true d lt = grind (arith, nat_tests)
last_again false d lt = grind (arith, nat_tests)

-- the spelling of a sign and a size is read back
again : (negative : Bool) (m : ℕ) → m ≤ 99999999
    → signed_of (digits_text 7 (m / 10) ++ last_char negative (m % 10) ∷ []) ≡ Ok (signed negative m)
again negative m le =
    let small : m / 10 < 10 ^ 7 = omega arith in
    let sum : m / 10 * 10 + m % 10 ≡ m = omega arith in
    let digit : m % 10 < 10 = omega arith in
    let len = length-digits_text 7 (m / 10) in
    let digits = digits_text-all 7 (m / 10) in
    rw (
      signed_push (digits_text 7 (m / 10)) (last_char negative (m % 10)) len digits,
      digits_text-number 7 (m / 10) small,
      last_again negative (m % 10) digit,
      sum,
    ) refl

-- an amount that is written is read back
pub signed_again : (z : ℤ) → unsigned_abs z ≤ 99999999 → signed_of (signed_text z) ≡ Ok z
unfolding signed_text
signed_again (pos n) le = again false n le
signed_again (negsuc n) le = again true (suc n) le

-- the amount of a text whose front is digits and whose last character has this sign and digit
pub signed_at : (bs front back : List ℕ) (negative : Bool) (d : ℕ) → eqb (length bs) 0 ≡ false → length bs ≤ 8
    → front ≡ take (length bs - 1) bs → back ≡ drop (length bs - 1) bs → all_digits front ≡ true
    → Some (negative, d) ≡ last_of (get_or back 0 0) → signed_of bs ≡ Ok (signed negative (number front * 10 + d))
signed_at bs front back negative d some few is_front is_back digits last =
    let short : ltb 8 (length bs) ≡ false = le-ltb _ _ few in
    let at : get_or bs (length bs - 1) 0 ≡ get_or back 0 0 = rw (is_back, get_or-drop, add-zero) refl in
    let all : all_digits (take (length bs - 1) bs) ≡ true = rw (← is_front) digits in
    rw (some, short, all, at, ← last, ← is_front) refl
