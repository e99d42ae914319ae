-- Numbers are read as they are spelled.
use Rattle.std.proofs.Common.{◌≡◌, ℕ, zero, suc, ◌+◌, ◌-◌, ◌*◌, ◌/◌, ◌%◌, ◌^◌, ◌<◌, ◌≤◌, Bool, true, false}
use Rattle.std.proofs.Common.{not, ◌&&◌, eqb, ltb, leb, List, [], ◌∷◌, ◌++◌, length, get_or, take, Some, Ok}
use Rattle.std.proofs.Common.{refl, sym, ap, subst, ◌∙◌, arith, inl, inr, length-append, length-take}
use Rattle.std.specs.Fmt.{decimal}
use Rattle.std.specs.Result.{result_ok}
use Rattle.std.proofs.Math.Nat.{pow-suc}
use Rattle.std.proofs.lemmas.Bool.{and_parts, cases_Bool, leb-true, le-leb, ltb-false, le-ltb, eqb-true}
use Rattle.std.proofs.lemmas.Bool.Decides.{nat_tests}
use Rattle.std.proofs.lemmas.Fmt.{decimal_digit, decimal_step_wide, decimal_by_steps_wide, length-decimal-le_wide}
use Rattle.std.proofs.lemmas.Grind.{common_steps}
use Rattle.std.proofs.lemmas.List.Folds.{list_all-append}
use Rattle.std.proofs.lemmas.List.{take_more}
use Rattle.rx_fields.specs.declared.fault.FieldFault.TheVariants as field
use Rattle.rx_fields.specs.Bounds.{bounded}
use Rattle.rx_text.specs.Bytes.{is_digit, all_digits}
use Rattle.rx_fields.specs.Digits.{number, number_of, digits_text}
use Rattle.rx_fields.specs.Numbered.{product_of}
use Rattle.rx_fields.proofs.DigitLaws.{digit_at, number_push, length-digits_text, digits_text-all, digits_text-number, power_le}
use Rattle.rx_text.specs.Options.{◌>>=◌}
use Rattle.rx_books_text.specs.LineReading.{begins_zero, number_in, count_in, authorization_in}
use Rattle.rx_text.proofs.Steps.{bind_some, guarded, unguarded, some_same}
use Rattle.rx_books_text.proofs.Steps.{ok_of, ok_same, passed, held, IsInside, digits_inside}

-- ---- digits

pub last_of_list : (bs : List ℕ) (n : ℕ) → length bs ≡ suc n → bs ≡ take n bs ++ get_or bs n 0 ∷ []
last_of_list bs n len =
    let whole : take (n + 1) bs ≡ bs = grind (arith, common_steps) in
    sym whole ∙ take_more bs n 0 (omega arith)

pub front_digits : (bs : List ℕ) (n d : ℕ) → bs ≡ take n bs ++ d ∷ [] → all_digits bs ≡ true → all_digits (take n bs) ≡ true
front_digits bs n d cut digits =
    (and_parts (all_digits (take n bs)) (all_digits (d ∷ []))
    (sym (list_all-append is_digit (take n bs) (d ∷ [])) ∙ (ap all_digits (sym cut) ∙ digits))).0

-- digits are the text of their number
pub digits_back : (bs : List ℕ) (n : ℕ) → length bs ≡ n → all_digits bs ≡ true
    → (digits_text n (number bs) ≡ bs) × (number bs < 10 ^ n)
unfolding digits_text
digits_back [] zero len digits = (refl, omega arith)
digits_back (b ∷ bs) zero len digits = absurd (omega arith)
digits_back bs (suc n) len digits =
    let cut = last_of_list bs n len in
    let d = get_or bs n 0 in
    let small = digit_at bs n digits (omega arith) in
    let front = digits_back (take n bs) n (omega (arith, length-take n bs)) (front_digits bs n d cut digits) in
    let value : number bs ≡ number (take n bs) * 10 + (d - 48) = ap number cut ∙ number_push (take n bs) d in
    let high : number bs / 10 ≡ number (take n bs) = omega (arith, value) in
    let low : 48 + number bs % 10 ≡ d = omega (arith, value) in
    (rw (high, low, front.0) (sym cut), omega (arith, value, front.1, pow-suc 10 n))

-- digits that begin with no zero are the decimal text of their number, which is not zero
pub plain_decimal : (n : ℕ) (bs : List ℕ) → n < 60 → length bs ≡ suc n → all_digits bs ≡ true → begins_zero bs ≡ false
    → (decimal (number bs) ≡ bs) × (0 < number bs)
plain_decimal zero [] few len digits first = absurd (omega arith)
plain_decimal zero (b ∷ []) few len digits first =
    let small = digit_at (b ∷ []) 0 digits (omega arith) in
    let some : 48 < b = grind (arith, nat_tests) in
    let value : number (b ∷ []) ≡ b - 48 = omega arith in
    let back : 48 + (b - 48) ≡ b = omega arith in
    (ap decimal value ∙ (decimal_digit (b - 48) (omega arith) ∙ ap (λ (c : ℕ). c ∷ []) back), omega (arith, value))
plain_decimal zero (a ∷ b ∷ bs) few len digits first = absurd (omega arith)
plain_decimal (suc n) [] few len digits first = absurd (omega arith)
plain_decimal (suc n) (b ∷ bs) few len digits first =
    let all = b ∷ bs in
    let cut = last_of_list all (suc n) len in
    let d = get_or all (suc n) 0 in
    let small = digit_at all (suc n) digits (omega arith) in
    let front = plain_decimal n (take (suc n) all) (omega arith) (omega (arith, length-take (suc n) all))
    (front_digits all (suc n) d cut digits) first in
    let value : number all ≡ number (take (suc n) all) * 10 + (d - 48) = ap number cut ∙ number_push (take (suc n) all) d in
    let high : number all / 10 ≡ number (take (suc n) all) = omega (arith, value) in
    let low : 48 + number all % 10 ≡ d = omega (arith, value) in
    let bound : number all < 10 ^ 64 = below_64 all (suc n) (omega arith) len digits in
    let step = decimal_step_wide (number all) (omega (arith, value, front.1)) bound in
    (step ∙ rw (high, low, front.0) (sym cut), omega (arith, value, front.1))
  where
    below_64 : (bs : List ℕ) (n : ℕ) → n < 60 → length bs ≡ suc n → all_digits bs ≡ true → number bs < 10 ^ 64
    below_64 bs n few len digits = omega (arith, (digits_back bs (suc n) len digits).1, power_le (suc n) 64 (omega arith))

pub last_false : (b : Bool) → (b && not true) ≡ false
last_false true = refl
last_false false = refl

pub last_digit : (n : ℕ) → all_digits ((48 + n % 10) ∷ []) ≡ true
last_digit n = grind (arith, nat_tests)

-- what a decimal text is made of
pub record IsDecimal (n : ℕ) (bs : List ℕ) : Type 0 where
  pub value : number bs ≡ n
  pub digits : all_digits bs ≡ true
  pub some : 0 < length bs
  pub first : (begins_zero bs && not (eqb (length bs) 1)) ≡ false
  pub high : 0 < n → begins_zero bs ≡ false

pub decimal_is : (n : ℕ) → n < 10 ^ 64 → IsDecimal n (decimal n)
decimal_is = decimal_by_steps_wide IsDecimal one more
  where
    one : (n : ℕ) → n < 10 → IsDecimal n ((48 + n) ∷ [])
    one n lt = record {
      value = omega arith;
      digits = grind (arith, nat_tests);
      some = omega arith;
      first = last_false (begins_zero ((48 + n) ∷ []));
      high = λ pos. grind (arith, nat_tests);
    }

    more : (n : ℕ) (ds : List ℕ) → 10 ≤ n → IsDecimal (n / 10) ds → IsDecimal n (ds ++ (48 + n % 10) ∷ [])
    more n [] le is = absurd (omega (arith, is.some))
    more n (b ∷ ds) le is =
        let first : begins_zero (b ∷ ds) ≡ false = is.high (omega arith) in
        record {
          value = number_push (b ∷ ds) (48 + n % 10) ∙ rw is.value (omega arith);
          digits = list_all-append is_digit (b ∷ ds) ((48 + n % 10) ∷ []) ∙ rw is.digits (last_digit n);
          some = omega (arith, length-append (b ∷ ds) ((48 + n % 10) ∷ []));
          first = rw first refl;
          high = λ pos. first;
        }

-- ---- numbers

pub number_takes : (max : ℕ) (bs : List ℕ) (n : ℕ) → max ≤ 20 → number_in max bs ≡ Some n
    → (bs ≡ decimal n) × (n < 10 ^ max)
unfolding number_in
number_takes max [] n few e = absurd cc
number_takes max (b ∷ bs) n few e =
    let all = b ∷ bs in
    let g = unguarded (begins_zero all && not (eqb (length all) 1)) (result_ok (number_of max all)) n e in
    let read = ok_of (number_of max all) n g.1 in
    let some = passed (eqb (length all) 0) field.Empty _ n read in
    let short = passed (ltb max (length all)) field.TooLong _ n some.1 in
    let digits = held (all_digits all) field.NotDigit (Ok (number all)) n short.1 in
    let is : number all ≡ n = ok_same (number all) n digits.1 in
    let within : length all ≤ max = ltb-false _ _ short.0 in
    let bound = (digits_back all (length all) refl digits.0).1 in
    let text : decimal (number all) ≡ all = elim (cases_Bool (begins_zero all)) [
      | inl zeroed ↦ only_zero b bs (rw zeroed at g.0) (eqb-true b 48 zeroed)
      | inr other ↦ (plain_decimal (length bs) all (omega arith) refl digits.0 other).0
    ] in
    (sym text ∙ ap decimal is, omega (arith, is, bound, power_le (length all) max within))
  where
    only_zero : (b : ℕ) (bs : List ℕ) → not (eqb (length (b ∷ bs)) 1) ≡ false → b ≡ 48
        → decimal (number (b ∷ bs)) ≡ b ∷ bs
    only_zero b [] one nought = rw nought (decimal_digit 0 (omega arith))
    only_zero b (c ∷ bs) one nought = absurd (let long : eqb (length (b ∷ c ∷ bs)) 1
        ≡ false = grind (arith, nat_tests) in let h = rw long at one in cc)

pub number_again : (max n : ℕ) → 0 < max → max ≤ 20 → n < 10 ^ max → number_in max (decimal n) ≡ Some n
unfolding number_in
number_again max n more few lt =
    let wide : n < 10 ^ 64 = omega (arith, lt, power_le max 64 (omega arith)) in
    let is = decimal_is n wide in
    let len : length (decimal n) ≤ max = length-decimal-le_wide max n more lt wide in
    let some : eqb (length (decimal n)) 0 ≡ false = grind (arith, nat_tests, is.some) in
    let short : ltb max (length (decimal n)) ≡ false = le-ltb max (length (decimal n)) len in
    rw (is.first, some, short, is.digits, is.value) refl

pub number_inside : (n : ℕ) → n < 10 ^ 20 → IsInside (decimal n)
number_inside n lt = digits_inside (decimal n) (decimal_is n (omega (arith, lt, power_le 20 64 (omega arith)))).digits

pub bounded_is : (low high n m : ℕ) → bounded low high n ≡ Some m → (n ≡ m) × (low ≤ m) × (m ≤ high)
bounded_is low high n m e =
    let g = guarded (leb low n && leb n high) (Some n) m e in
    let parts = and_parts (leb low n) (leb n high) g.0 in
    let same : n ≡ m = some_same g.1 in
    (same, omega (arith, leb-true low n parts.0, same), omega (arith, leb-true n high parts.1, same))

pub bounded_again : (low high n : ℕ) → low ≤ n → n ≤ high → bounded low high n ≡ Some n
bounded_again low high n ge le = rw (le-leb low n ge, le-leb n high le) refl

pub count_takes : (low high : ℕ) (bs : List ℕ) (n : ℕ) → count_in low high bs ≡ Some n
    → (bs ≡ decimal n) × ((low ≤ n) × (n ≤ high))
unfolding count_in
count_takes low high bs n e =
    let a = bind_some (number_in 19 bs) (bounded low high) n e in
    let is = bounded_is low high a.0 n a.2 in
    ((number_takes 19 bs a.0 (omega arith) a.1).0 ∙ ap decimal is.0, (is.1, is.2))

pub count_again : (low high n : ℕ) → high < 10 ^ 19 → low ≤ n → n ≤ high → count_in low high (decimal n) ≡ Some n
unfolding count_in
count_again low high n small ge le =
    rw (number_again 19 n (omega arith) (omega arith) (omega arith), bounded_again low high n ge le) refl

-- ---- products and authorization numbers

pub product_takes : (bs : List ℕ) (p : ℕ) → product_of bs ≡ Some p → (bs ≡ digits_text 11 p) × (p < 10 ^ 11)
product_takes bs p e =
    let g = guarded (eqb (length bs) 11 && all_digits bs) (Some (number bs)) p e in
    let parts = and_parts (eqb (length bs) 11) (all_digits bs) g.0 in
    let is : number bs ≡ p = some_same g.1 in
    let back = digits_back bs 11 (eqb-true (length bs) 11 parts.0) parts.1 in
    (sym back.0 ∙ ap (digits_text 11) is, subst (λ (n : ℕ). n < 10 ^ 11) is back.1)

pub product_again : (p : ℕ) → p < 10 ^ 11 → product_of (digits_text 11 p) ≡ Some p
product_again p lt = rw (length-digits_text 11 p, digits_text-all 11 p, digits_text-number 11 p lt) refl

pub digits_text_inside : (n x : ℕ) → IsInside (digits_text n x)
digits_text_inside n x = digits_inside (digits_text n x) (digits_text-all n x)

pub authorization_takes : (bs : List ℕ) (n : ℕ) → authorization_in bs ≡ Some n
    → (bs ≡ digits_text 15 n) × (n ≤ 999_999_999_999_999)
unfolding authorization_in
authorization_takes bs n e =
    let g = guarded (eqb (length bs) 15) (result_ok (number_of 15 bs) >>= bounded 0 999_999_999_999_999) n e in
    let len : length bs ≡ 15 = eqb-true (length bs) 15 g.0 in
    let a = bind_some (result_ok (number_of 15 bs)) (bounded 0 999_999_999_999_999) n g.1 in
    let is = bounded_is 0 999_999_999_999_999 a.0 n a.2 in
    let read = ok_of (number_of 15 bs) a.0 a.1 in
    let some = passed (eqb (length bs) 0) field.Empty _ a.0 read in
    let short = passed (ltb 15 (length bs)) field.TooLong _ a.0 some.1 in
    let digits = held (all_digits bs) field.NotDigit (Ok (number bs)) a.0 short.1 in
    let value : number bs ≡ n = ok_same (number bs) a.0 digits.1 ∙ is.0 in
    (sym (digits_back bs 15 len digits.0).0 ∙ ap (digits_text 15) value, is.2)

pub authorization_again : (n : ℕ) → n ≤ 999_999_999_999_999 → authorization_in (digits_text 15 n) ≡ Some n
unfolding authorization_in
authorization_again n le =
    rw (
      length-digits_text 15 n,
      digits_text-all 15 n,
      digits_text-number 15 n (omega arith),
      bounded_again 0 999_999_999_999_999 n (omega arith) le,
    ) refl
