-- Numbers, amounts and codes are read as they are written.
use Rattle.std.proofs.Common.{get_or, ◌≡◌, ℕ, zero, suc, ◌+◌, ◌-◌, ◌*◌, ◌/◌, ◌%◌, ◌^◌, ◌<◌, ◌≤◌, Bool, true, ◌&&◌, cond}
use Rattle.std.proofs.Common.{List, [], ◌∷◌, ◌++◌, length, take, drop, Option, Some, None, Result, Ok, Err, refl, sym, ap}
use Rattle.std.proofs.Common.{subst, ◌∙◌, arith, ℤ, pos, negsuc, neg_ℤ, length-append, length-take, inl, inr}
use Rattle.std.specs.Prelude.{nat_eq, nat_le, unsigned_abs, find}
use Rattle.std.specs.Cmp.Lexicographic.{pointwise, same_text}
use Rattle.std.proofs.lemmas.Grind.{common_steps}
use Rattle.std.proofs.Math.Nat.{pow-suc}
use Rattle.std.proofs.lemmas.List.Folds.{list_all-append}
use Rattle.std.proofs.lemmas.Cmp.{nat_list_eq_equiv}
use Rattle.std.proofs.lemmas.Bool.{and_parts, cases_Bool, leb-true, le-leb}
use Rattle.std.proofs.lemmas.List.{take_more, take_at, drop_at, take-append-drop}
use Rattle.rx_fields.specs.declared.fault.FieldFault.{FieldFault}
use Rattle.rx_fields.specs.declared.code.Code.{Code}
use Rattle.rx_text.specs.Bytes.{is_digit, all_digits}
use Rattle.rx_fields.specs.Digits.{number, digits_text}
use Rattle.rx_fields.specs.Amount.{signed_of, signed_text, last_char, is_negative}
use Rattle.rx_fields.specs.Bounds.{bounded}
use Rattle.rx_fields.specs.Codes.{code_text, code_of, all_codes}
use Rattle.rx_fields.proofs.DigitLaws.{digit_at, number_push, length-digits_text, digits_text-all, digits_text-number}
use Rattle.rx_fields.proofs.AmountLaws.{signed_again}
use Rattle.rx_text.specs.Options.{◌>>=◌}
use Rattle.rx_d0_reply.specs.Readers.{made, bytes_at, digits_at, number_at, spelt, signed_at}
use Rattle.rx_d0_reply.specs.Reading.{paid_of, reversed_of, paid_at, reversed_at}
use Rattle.rx_text.proofs.Steps.{bind_some, guarded, some_same, chain}
use Rattle.rx_d0_reply.proofs.Laws.{Reads, Always, made-reads}

-- ---- bytes

pub bytes-reads : (n : ℕ) → Reads (bytes_at n) (λ t. t) (λ t. length t ≡ n) Always
unfolding bytes_at
bytes-reads n = record {
  takes = λ bs x e.
      let long = guarded (nat_le n (length bs)) (Some (take n bs, drop n bs)) x e in
      let enough : n ≤ length bs = leb-true n (length bs) long.0 in
      subst (λ (y : List ℕ × List ℕ). (bs ≡ y.0 ++ y.1) × (length y.0 ≡ n)) (some_same long.1)
      (sym (take-append-drop n bs), omega (arith, length-take n bs));
  again = λ t rest len ends.
      let long : nat_le n (length (t ++ rest)) ≡ true = le-leb n _ (omega (arith, length-append t rest)) in
      rw (long, take_at t rest n len, drop_at t rest n len) refl;
}

-- ---- numbers

last_of_list : (bs : List ℕ) (n : ℕ) → length bs ≡ suc n → bs ≡ take n bs ++ get_or bs n 0 ∷ []
last_of_list bs n len =
    let whole : take (n + 1) bs ≡ bs = grind (arith, common_steps) in
    sym whole ∙ take_more bs n 0 (omega arith)

-- digits are the text of their number
digits_text-of_number : (bs : List ℕ) (n : ℕ) → length bs ≡ n → all_digits bs ≡ true
    → (digits_text n (number bs) ≡ bs) × (number bs < 10 ^ n)
unfolding digits_text
digits_text-of_number [] zero len digits = (refl, omega arith)
digits_text-of_number (b ∷ bs) zero len digits = absurd (omega arith)
digits_text-of_number bs (suc n) len digits =
    let cut = last_of_list bs n len in
    let d = get_or bs n 0 in
    let small = digit_at bs n digits (omega arith) in
    let front_digits : all_digits (take n bs) ≡ true =
    (and_parts (all_digits (take n bs)) (all_digits (d ∷ []))
    (sym (list_all-append is_digit (take n bs) (d ∷ [])) ∙ (ap all_digits (sym cut) ∙ digits))).0 in
    let front = digits_text-of_number (take n bs) n (omega (arith, length-take n bs)) front_digits in
    let value : number bs ≡ number (take n bs) * 10 + (d - 48) = ap number cut ∙ number_push (take n bs) d in
    let high : number bs / 10 ≡ number (take n bs) = omega (arith, value) in
    let low : 48 + number bs % 10 ≡ d = omega (arith, value) in
    (rw (high, low, front.0) (sym cut), omega (arith, value, front.1, pow-suc 10 n))

pub digits-reads : (n : ℕ) → Reads (digits_at n) (digits_text n) (λ v. v < 10 ^ n) Always
unfolding digits_at
digits-reads n = record {
  takes = λ bs x e.
      let g = guarded (nat_le n (length bs) && all_digits (take n bs)) (Some (number (take n bs), drop n bs)) x e in
      let parts = and_parts (nat_le n (length bs)) (all_digits (take n bs)) g.0 in
      let long : n ≤ length bs = leb-true n (length bs) parts.0 in
      let len : length (take n bs) ≡ n = omega (arith, length-take n bs) in
      let text = digits_text-of_number (take n bs) n len parts.1 in
      subst (λ (y : ℕ × List ℕ). (bs ≡ digits_text n y.0 ++ y.1) × (y.0 < 10 ^ n)) (some_same g.1)
      (rw text.0 (sym (take-append-drop n bs)), text.1);
  again = λ v rest lt ends.
      let len = length-digits_text n v in
      let long : nat_le n (length (digits_text n v ++ rest)) ≡ true = le-leb n _
      (omega (arith, length-append (digits_text n v) rest)) in
      rw (
        long,
        take_at (digits_text n v) rest n len,
        drop_at
            (digits_text n v) rest n len,
        digits_text-all n v,
        digits_text-number n v lt,
      ) refl;
}

-- the number is within bounds, and itself
pub bounded_is : (low high n m : ℕ) → bounded low high n ≡ Some m → (n ≡ m) × (low ≤ m) × (m ≤ high)
bounded_is low high n m e =
    let g = guarded (nat_le low n && nat_le n high) (Some n) m e in
    let parts = and_parts (nat_le low n) (nat_le n high) g.0 in
    let same : n ≡ m = some_same g.1 in
    (same, omega (arith, leb-true low n parts.0, same), omega (arith, leb-true n high parts.1, same))

pub bounded_again : (low high n : ℕ) → low ≤ n → n ≤ high → bounded low high n ≡ Some n
bounded_again low high n ge le = rw (le-leb low n ge, le-leb n high le) refl

pub number-reads : (low high n : ℕ) → high < 10 ^ n
    → Reads (number_at low high n) (digits_text n) (λ v. (low ≤ v) × (v ≤ high)) Always
unfolding number_at
number-reads low high n small =
    made-reads (bounded low high) (λ v. v) (digits_text n) (λ v. (low ≤ v) × (v ≤ high)) (digits-reads n)
    (λ a b lt e. let is = bounded_is low high a b e in (ap (digits_text n) is.0, (is.1, is.2)))
    (λ b fits. (bounded_again low high b fits.0 fits.1, omega (arith, small, fits.1), refl))

-- ---- amounts

spelt_takes : (bs : List ℕ) (r : Result ℤ FieldFault) (x : ℤ × List ℕ) → spelt bs r ≡ Some x
    → bs ≡ signed_text x.0 ++ x.1
spelt_takes bs (Err f) x e = absurd cc
spelt_takes bs (Ok z) x e =
    let g = guarded (pointwise nat_eq (take 8 bs) (signed_text z)) (Some (z, drop 8 bs)) x e in
    let text : take 8 bs ≡ signed_text z = same_text (take 8 bs) (signed_text z) (sym g.0) in
    subst (λ (y : ℤ × List ℕ). bs ≡ signed_text y.0 ++ y.1) (some_same g.1)
    (sym (take-append-drop 8 bs) ∙ ap (λ (t : List ℕ). t ++ drop 8 bs) text)

signed_takes : (bs : List ℕ) (x : ℤ × List ℕ) → signed_at bs ≡ Some x → bs ≡ signed_text x.0 ++ x.1
unfolding signed_at
signed_takes bs x e = spelt_takes bs (signed_of (take 8 bs)) x
    (guarded (nat_le 8 (length bs)) (spelt bs (signed_of (take 8 bs))) x e).1

length-signed_text : (z : ℤ) → length (signed_text z) ≡ 8
unfolding signed_text
length-signed_text z =
    omega (
      arith,
      length-append (digits_text 7 (unsigned_abs z / 10)) (last_char (is_negative z) (unsigned_abs z % 10) ∷ []),
      length-digits_text 7 (unsigned_abs z / 10),
    )

signed_at_text : (z : ℤ) (text rest : List ℕ) → length text ≡ 8 → signed_of text ≡ Ok z → text ≡ signed_text z
    → signed_at (text ++ rest) ≡ Some (z, rest)
unfolding signed_at
signed_at_text z text rest len value is =
    let long : nat_le 8 (length (text ++ rest)) ≡ true = le-leb 8 _ (omega (arith, length-append text rest)) in
    let front = take_at text rest 8 len in
    let same : pointwise nat_eq (take 8 (text ++ rest)) (signed_text z) ≡ true =
    ap (λ (t : List ℕ). pointwise nat_eq t (signed_text z)) (front ∙ is) ∙ nat_list_eq_equiv.refl (signed_text z) in
    ap (λ (b : Bool). cond b (spelt (text ++ rest) (signed_of (take 8 (text ++ rest)))) None) long
    ∙ (ap (λ (t : List ℕ). spelt (text ++ rest) (signed_of t)) front
    ∙ (ap (spelt (text ++ rest)) value
    ∙ (ap (λ (b : Bool). cond b (Some (z, drop 8 (text ++ rest))) None) same
    ∙ ap (λ (t : List ℕ). Some (z, t)) (drop_at text rest 8 len))))

-- amounts of one sign
signed-reads : (make : ℤ → Option ℕ) (back : ℕ → ℤ)
    → ((z : ℤ) (n : ℕ) → make z ≡ Some n → (z ≡ back n) × (n ≤ 99999999))
    → ((n : ℕ) → n ≤ 99999999 → (make (back n) ≡ Some n) × (unsigned_abs (back n) ≤ 99999999))
    → Reads (made make signed_at) (λ n. signed_text (back n)) (λ n. n ≤ 99999999) Always
signed-reads make back forth over = record {
  takes = λ bs x e.
      let z = bind_some (signed_at bs) (λ z. make z.0 >>= λ n. Some (n, z.1)) x e in
      let n = bind_some (make z.0.0) (λ n. Some (n, z.0.1)) x z.2 in
      let is = forth z.0.0 n.0 n.1 in
      subst (λ (y : ℕ × List ℕ). (bs ≡ signed_text (back y.0) ++ y.1) × (y.0 ≤ 99999999)) (some_same n.2)
      (signed_takes bs z.0 z.1 ∙ ap (λ (v : ℤ). signed_text v ++ z.0.1) is.0, is.1);
  again = λ n rest le ends.
      let from = over n le in
      chain (signed_at (signed_text (back n) ++ rest)) (λ z. make z.0 >>= λ n. Some (n, z.1)) (back n, rest)
      (signed_at_text (back n) (signed_text (back n)) rest (length-signed_text (back n))
      (signed_again (back n) from.1) refl)
      (chain (make (back n)) (λ n. Some (n, rest)) n from.0 refl);
}

paid_is : (z : ℤ) (n : ℕ) → paid_of z ≡ Some n → (z ≡ pos n) × (n ≤ 99999999)
paid_is (pos m) n e = let is = bounded_is 0 99999999 m n e in (ap pos is.0, is.2)
paid_is (negsuc m) n e = absurd cc

pub paid-reads : Reads paid_at (λ n. signed_text (pos n)) (λ n. n ≤ 99999999) Always
unfolding paid_at
paid-reads = signed-reads paid_of (λ n. pos n) paid_is (λ n le. (bounded_again 0 99999999 n (omega arith) le, le))

reversed_is : (z : ℤ) (n : ℕ) → reversed_of z ≡ Some n → (z ≡ neg_ℤ (pos n)) × (n ≤ 99999999)
reversed_is (pos zero) n e =
    let is = bounded_is 0 99999999 0 n e in (ap (λ (k : ℕ). neg_ℤ (pos k)) is.0, is.2)
reversed_is (pos (suc m)) n e = absurd cc
reversed_is (negsuc m) n e =
    let is = bounded_is 0 99999999 (suc m) n e in (ap (λ (k : ℕ). neg_ℤ (pos k)) is.0, is.2)

reversed_again : (n : ℕ) → n ≤ 99999999
    → (reversed_of (neg_ℤ (pos n)) ≡ Some n) × (unsigned_abs (neg_ℤ (pos n)) ≤ 99999999)
reversed_again zero le = (refl, le)
reversed_again (suc n) le = (bounded_again 0 99999999 (suc n) (omega arith) le, le)

pub reversed-reads : Reads reversed_at (λ n. signed_text (neg_ℤ (pos n))) (λ n. n ≤ 99999999) Always
unfolding reversed_at
reversed-reads = signed-reads reversed_of (λ n. neg_ℤ (pos n)) reversed_is reversed_again

-- ---- codes

pub find_is : (p : Code → Bool) (cs : List Code) (c : Code) → find p cs ≡ Some c → p c ≡ true
find_is p [] c e = absurd cc
find_is p (d ∷ cs) c e =
    elim (cases_Bool (p d)) [
      | inl passes ↦ subst (λ (x : Code). p x ≡ true) (some_same (rw passes at e)) passes
      | inr fails ↦ find_is p cs c (rw fails at e)
    ]

pub code_is : (bs : List ℕ) (c : Code) → code_of bs ≡ Some c → bs ≡ code_text c
code_is bs c e = sym (same_text (code_text c) bs (sym (find_is (λ d. pointwise nat_eq (code_text d) bs) all_codes c e)))
