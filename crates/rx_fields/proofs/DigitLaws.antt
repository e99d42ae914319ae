-- Digits and the number that they stand for.
use Rattle.std.proofs.Common.{◌≡◌, ℕ, zero, suc, ◌+◌, ◌-◌, ◌*◌, ◌/◌, ◌%◌, ◌^◌, ◌<◌, ◌≤◌, true, Ok, inl, inr}
use Rattle.std.proofs.Common.{List, [], ◌∷◌, ◌++◌, length, get_or, take, drop, set, append_assoc, length-append}
use Rattle.std.proofs.Common.{refl, sym, ◌∙◌, arith, add-one, lit<}
use Rattle.std.proofs.lemmas.List.Folds.{list_all-append, list_all_at}
use Rattle.std.proofs.lemmas.Bool.{cases_Bool}
use Rattle.std.proofs.lemmas.Bool.Decides.{nat_tests}
use Rattle.std.proofs.Math.Nat.{pow-suc, pow-le-pow_right}
use Rattle.std.proofs.lemmas.List.{take_more, drop-set}
use Rattle.rx_text.specs.Bytes.{is_digit, all_digits}
use Rattle.rx_fields.specs.Digits.{number, number_of, digits_text}

-- ---- reading

-- a digit at the end makes the number ten times as much, and the digit more
pub number_push : (bs : List ℕ) (b : ℕ) → number (bs ++ b ∷ []) ≡ number bs * 10 + (b - 48)
number_push [] b = omega arith
number_push (c ∷ bs) b =
    let len = length-append bs (b ∷ []) in
    let power : 10 ^ length (bs ++ b ∷ []) ≡ 10 * 10 ^ length bs =
    rw (len, add-one) (omega (arith, pow-suc 10 (length bs))) in
    rw (power, number_push bs b) (omega arith)

-- the number of the first i + 1 digits, from that of the first i
pub number_more : (bs : List ℕ) (i : ℕ) → i < length bs
    → number (take (i + 1) bs) ≡ number (take i bs) * 10 + (get_or bs i 0 - 48)
number_more bs i lt = rw (take_more bs i 0 lt) (number_push (take i bs) (get_or bs i 0))

-- each byte of digits is 0 to 9
pub digit_at : (bs : List ℕ) (i : ℕ) → all_digits bs ≡ true → i < length bs
    → (48 ≤ get_or bs i 0) × (get_or bs i 0 ≤ 57)
digit_at bs i digits lt =
    elim (cases_Bool (is_digit (get_or bs i 0))) [
      | inl digit ↦ grind (arith, nat_tests)
      | inr other ↦ absurd (let bad = list_all_at is_digit bs i 0 lt other in cc)
    ]

-- ---- bounds

-- more digits have the larger bound
pub power_le : (i j : ℕ) → i ≤ j → 10 ^ i ≤ 10 ^ j
power_le i j le = pow-le-pow_right (lit< tt) le

-- a number of at most 18 digits has room for one more
pub fits_more : (n i d : ℕ) → i ≤ 18 → n < 10 ^ i → d ≤ 9 → n * 10 + d < 10 ^ 19
fits_more n i d le lt digit = omega (arith, power_le i 18 le)

-- a number of i digits and one more digit is a number of i + 1 digits
pub below_more : (n i d : ℕ) → n < 10 ^ i → d ≤ 9 → n * 10 + d < 10 ^ (i + 1)
below_more n i d lt digit = rw add-one (omega (arith, pow-suc 10 i))

-- ---- writing

pub length-digits_text : (n x : ℕ) → length (digits_text n x) ≡ n
unfolding digits_text
length-digits_text zero x = refl
length-digits_text (suc n) x =
    omega (arith, length-append (digits_text n (x / 10)) ((48 + x % 10) ∷ []), length-digits_text n (x / 10))

-- the last digit that is written is one
digit_is : (x : ℕ) → is_digit (48 + x % 10) ≡ true
digit_is x = grind (arith, nat_tests)

-- what is written is digits
pub digits_text-all : (n x : ℕ) → all_digits (digits_text n x) ≡ true
unfolding digits_text
digits_text-all zero x = refl
digits_text-all (suc n) x =
    rw (list_all-append is_digit (digits_text n (x / 10)) ((48 + x % 10) ∷ []), digits_text-all n (x / 10), digit_is x)
    refl

-- what is written of a number that fits stands for that number
pub digits_text-number : (n x : ℕ) → x < 10 ^ n → number (digits_text n x) ≡ x
unfolding digits_text
digits_text-number zero x lt = omega (arith, lt)
digits_text-number (suc n) x lt =
    let small : x / 10 < 10 ^ n = omega (arith, pow-suc 10 n) in
    rw (number_push (digits_text n (x / 10)) (48 + x % 10), digits_text-number n (x / 10) small) (omega arith)

-- a number that is written is read back
pub digits_text-again : (n x : ℕ) → 1 ≤ n → x < 10 ^ n → number_of n (digits_text n x) ≡ Ok x
digits_text-again n x one lt =
    rw (length-digits_text n x, digits_text-all n x, digits_text-number n x lt) (grind (arith, nat_tests))

-- a step to the left: the digit of rest at place i - 1, and the digits before it still to be written
pub write_step : (i rest : ℕ) (out text : List ℕ) → 0 < i → i ≤ length out
    → digits_text i rest ++ drop i out ≡ text
    → digits_text (i - 1) (rest / 10) ++ drop (i - 1) (set out (i - 1) (48 + rest % 10)) ≡ text
unfolding digits_text
write_step zero rest out text pos le written = absurd (omega arith)
write_step (suc j) rest out text pos le written =
    let before : suc j - 1 ≡ j = omega arith in
    rw (before, drop-set out j (48 + rest % 10) (omega arith), add-one)
    (sym (append_assoc (digits_text j (rest / 10)) ((48 + rest % 10) ∷ []) (drop (suc j) out)) ∙ written)

-- no digit is left to be written
pub write_done : (i rest : ℕ) (out text : List ℕ) → i ≤ 0 → digits_text i rest ++ drop i out ≡ text → out ≡ text
unfolding digits_text
write_done zero rest out text le written = written
write_done (suc j) rest out text le written = absurd (omega arith)
