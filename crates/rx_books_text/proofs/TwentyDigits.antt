-- Numbers of at most twenty digits.
use Rattle.std.proofs.Common.{◌≡◌, ℕ, ◌+◌, true, false, ltb, List, [], ◌∷◌, ◌++◌, length, get_or, take}
use Rattle.std.proofs.Common.{drop, Some, None, refl, sym, ap, ◌∙◌, arith, inl, inr, length-take}
use Rattle.std.specs.Result.{result_ok}
use Rattle.std.proofs.lemmas.Bool.{cases_Bool}
use Rattle.std.proofs.lemmas.Bool.Decides.{nat_tests}
use Rattle.std.proofs.lemmas.Grind.{common_steps}
use Rattle.std.proofs.lemmas.List.Folds.{list_all-append}
use Rattle.std.proofs.lemmas.List.{take_more, drop_at}
use Rattle.rx_text.specs.Bytes.{is_digit, all_digits}
use Rattle.rx_fields.specs.Digits.{number_of}
use Rattle.rx_fields.proofs.DigitLaws.{number_push}
use Rattle.rx_books_text.specs.LineReading.{begins_zero, joined_number, number_in}

-- a text that isn't twenty bytes long has at most nineteen digits
pub narrower : (bs : List ℕ) → (length bs ≡ 20 → ⊥) → number_in 19 bs ≡ number_in 20 bs
unfolding number_in
narrower bs other =
    let same : ltb 19 (length bs) ≡ ltb 20 (length bs) = grind (arith, nat_tests) in
    rw same refl

last_of_list : (bs : List ℕ) (n : ℕ) → length bs ≡ n + 1 → bs ≡ take n bs ++ get_or bs n 0 ∷ []
last_of_list bs n len =
    let whole : take (n + 1) bs ≡ bs = grind (arith, common_steps) in
    sym whole ∙ take_more bs n 0 (omega arith)

joined_push : (front : List ℕ) (d : ℕ) → length front ≡ 19
    → joined_number front (d ∷ []) ≡ result_ok (number_of 20 (front ++ d ∷ []))
joined_push front d len =
    let all = list_all-append is_digit front (d ∷ []) in
    let long : length (front ++ d ∷ []) ≡ 20 = grind (arith, common_steps) in
    elim (cases_Bool (all_digits front)) [
      | inl digits ↦ elim (cases_Bool (is_digit d)) [
        | inl digit ↦ rw (len, long, all, digits, digit, number_push front d) (ap Some (omega arith))
        | inr other ↦ rw (len, long, all, digits, other) refl
      ]
      | inr others ↦ rw (len, long, all, others) refl
    ]

-- twenty digits are nineteen and one more
pub twenty : (bs : List ℕ) → length bs ≡ 20 → begins_zero bs ≡ false
    → joined_number (take 19 bs) (drop 19 bs) ≡ number_in 20 bs
unfolding number_in
twenty bs len first =
    let cut = last_of_list bs 19 len in
    let front : length (take 19 bs) ≡ 19 = omega (arith, length-take 19 bs) in
    let rest : drop 19 bs ≡ get_or bs 19 0 ∷ [] =
    ap (drop 19) cut ∙ drop_at (take 19 bs) (get_or bs 19 0 ∷ []) 19 front in
    rw first (ap (joined_number (take 19 bs)) rest ∙ joined_push (take 19 bs) (get_or bs 19 0) front
    ∙ ap (λ (t : List ℕ). result_ok (number_of 20 t)) (sym cut))

-- zero stands in front of more digits
pub leading : (bs : List ℕ) → length bs ≡ 20 → begins_zero bs ≡ true → None ≡ number_in 20 bs
unfolding number_in
leading bs len first = rw (first, len) refl
