-- Digits are text, and write a number.
use Rattle.std.proofs.Common.{◌≡◌, ◌<◌, ℕ, zero, suc, List, [], ◌∷◌, true, slice_index}
use Rattle.std.proofs.Common.{Result, Ok, Err, Some, None, length, ◌^◌, inl, inr, sym, arith, rules}
use Rattle.std.specs.Fmt.{decimal}
use Rattle.std.specs.List.{list_all}
use Rattle.std.specs.Str.{IsUtf8}
use Rattle.std.proofs.lemmas.Str.{IsUtf8-from_ascii}
use Rattle.std.proofs.lemmas.Bool.{cases_lt}
use Rattle.std.proofs.lemmas.Bool.Decides.{nat_tests}
use Rattle.std.proofs.lemmas.Fmt.{decimal_nonempty, digits_decimal, digits_value-decimal}
use Rattle.std.proofs.lemmas.Grind.{common_steps}
use Rattle.std.specs.Str.Parse.{ParsesUnsigned}
use Rattle.std.specs.Result.{OkIff, result_ok}
use Rattle.std.proofs.lemmas.Str.Parse.{IsNumeralModel, numerals_by_fold, parse_digits}
use Rattle.rx_text.specs.Bytes.{is_digit}
use Rattle.rx_run_log.specs.Settlement.{count_of, number_after}

-- a digit is ASCII, and so are those after it
first_is : (b : ℕ) (bs : List ℕ) → list_all is_digit (b ∷ bs) ≡ true → b < 128
first_is b bs all = grind (arith, nat_tests, common_steps)

rest_are : (b : ℕ) (bs : List ℕ) → list_all is_digit (b ∷ bs) ≡ true → list_all is_digit bs ≡ true
rest_are b bs all = grind (arith, nat_tests, common_steps)

pub digits_are_ascii : (bs : List ℕ) → list_all is_digit bs ≡ true → (i : ℕ) → slice_index bs i < 128
digits_are_ascii [] all zero = omega arith
digits_are_ascii [] all (suc i) = omega arith
digits_are_ascii (b ∷ bs) all zero = first_is b bs all
digits_are_ascii (b ∷ bs) all (suc i) = digits_are_ascii bs (rest_are b bs all) i

pub digits_are_text : (bs : List ℕ) → list_all is_digit bs ≡ true → IsUtf8 bs
digits_are_text bs all = IsUtf8-from_ascii bs (digits_are_ascii bs all)

-- digits are a text of digits, and their number is what a text of digits is read as
own : IsNumeralModel (λ digits. list_all is_digit digits ≡ true) (number_after 0)
own = numerals_by_fold _ (search rules) number_after (search rules)

-- what is read of digits is their count
read_is : (digits : List ℕ) (n : ℕ) → list_all is_digit digits ≡ true → 0 < length digits → number_after 0 digits < 2 ^ 64
    → n ≡ number_after 0 digits → Some n ≡ count_of digits
read_is digits n all some small is = grind (arith, nat_tests)

none_is : (digits : List ℕ) → list_all is_digit digits ≡ true → ¬ ((0 < length digits) × (number_after 0 digits < 2 ^ 64))
    → None ≡ count_of digits
none_is digits all none = elim (cases_lt 0 (length digits)) [
  | inl some ↦ (elim (cases_lt (number_after 0 digits) (2 ^ 64)) [
    | inl small ↦ absurd (none (some, small))
    | inr large ↦ grind (arith, nat_tests)
  ])
  | inr empty ↦ grind (arith, nat_tests)
]

count_by : {E : Type 0} (digits : List ℕ) (r : Result ℕ E) → list_all is_digit digits ≡ true
    → OkIff r ((0 < length digits) × (number_after 0 digits < 2 ^ 64)) (number_after 0 digits) → result_ok r ≡ count_of digits
count_by digits (Ok n) all h = read_is digits n all h.0.0 h.0.1 h.1
count_by digits (Err e) all h = none_is digits all h

pub count_is : {E : Type 0} (digits : List ℕ) (r : Result ℕ E) → ParsesUnsigned 64 10 digits r → list_all is_digit digits ≡ true
    → result_ok r ≡ count_of digits
count_is digits r reads all = count_by digits r all (parse_digits own 64 digits r reads all)

-- the digits of a number are read as its count
pub decimal_digits : (n : ℕ) → n < 2 ^ 64 → list_all is_digit (decimal n) ≡ true
decimal_digits n small = digits_decimal own n small

pub count_back : (n : ℕ) → n < 2 ^ 64 → count_of (decimal n) ≡ Some n
count_back n small =
    let value = digits_value-decimal own n small in
    sym (read_is (decimal n) n (decimal_digits n small) (decimal_nonempty n small) (omega (arith, value)) (sym value))
