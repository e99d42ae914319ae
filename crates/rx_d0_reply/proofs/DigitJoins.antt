-- The digits of a number are those of its front and those of what is left.
use Rattle.std.proofs.Common.{◌≡◌, ℕ, zero, suc, ◌+◌, ◌*◌, ◌/◌, ◌%◌, ◌^◌, ◌<◌, List, [], ◌∷◌, ◌++◌}
use Rattle.std.proofs.Common.{length, get_or, ℤ, append_assoc, refl, sym, ap, ◌∙◌, arith}
use Rattle.std.proofs.Math.Arith.{mod-mul}
use Rattle.std.proofs.Math.Nat.{div-div-eq-div-mul, mul_comm, one-le-pow, pow-suc}
use Rattle.std.proofs.lemmas.List.{append-nil}
use Rattle.rx_fields.specs.Amount.{signed_text}
use Rattle.rx_fields.specs.Digits.{digits_text}

-- the digits before the last of what is left, and the last
left_over : (k x : ℕ) → 0 < k → (x % (k * 10) / 10 ≡ x / 10 % k) × (x % (k * 10) % 10 ≡ x % 10)
left_over k x some =
    let whole : x % (k * 10) ≡ (x / 10 % k) * 10 + x % 10 = mod-mul x some (omega arith) in
    (omega (arith, whole), omega (arith, whole))

pub digits_join : (a b x : ℕ) → digits_text (a + b) x ≡ digits_text a (x / 10 ^ b) ++ digits_text b (x % 10 ^ b)
unfolding digits_text
digits_join a zero x =
    let same : x / 1 ≡ x = omega arith in
    let no_more : a + 0 ≡ a = omega arith in
    rw (no_more, same) (sym (append-nil (digits_text a x)))
digits_join a (suc b) x =
    let more : a + suc b ≡ suc (a + b) = omega arith in
    let over = left_over (10 ^ b) x (one-le-pow b 10 (omega arith)) in
    let front : x / (10 ^ b * 10) ≡ x / 10 / 10 ^ b = ap (λ n. x / n) (mul_comm (10 ^ b) 10) ∙ sym (div-div-eq-div-mul x 10 (10 ^ b)) in
    rw (more, pow-suc 10 b, over.0, over.1, front, digits_join a b (x / 10))
    (append_assoc (digits_text a (x / 10 / 10 ^ b)) (digits_text b (x / 10 % 10 ^ b)) ((48 + x % 10) ∷ []))

-- ---- a text and its bytes, one by one

pub pair_of : (l : List ℕ) → length l ≡ 2 → get_or l 0 0 ∷ get_or l 1 0 ∷ [] ≡ l
pair_of [] e = absurd (omega arith)
pair_of (a ∷ []) e = absurd (omega arith)
pair_of (a ∷ b ∷ []) e = refl
pair_of (a ∷ b ∷ x ∷ l) e = absurd (omega arith)

abbrev pub eight_of : List ℕ → List ℕ
eight_of l =
    get_or l 0 0 ∷ get_or l 1 0 ∷ get_or l 2 0 ∷ get_or l 3 0 ∷ get_or l 4 0 ∷ get_or l 5 0 ∷ get_or l 6 0 ∷ get_or l 7 0 ∷ []

pub spelt_by_bytes : (z : ℤ) → eight_of (signed_text z) ≡ signed_text z
unfolding signed_text digits_text
spelt_by_bytes z = refl
