-- The codes in bytes that pass in two pieces.
use Rattle.std.proofs.Common.{◌≡◌, ℕ, suc, ◌/◌, ◌%◌, ◌<◌, List, [], ◌∷◌, ◌++◌, ◌∙◌, false, true≢false, get_or, ap, refl, sym, append_assoc, inl, inr, arith}
use Rattle.std.specs.Prelude.{◌==◌}
use Rattle.std.proofs.lemmas.Bool.{cases_Bool, eq-eqb, eqb-true, or_parts}
use Rattle.rx_run_log.specs.CodesPassed.{IsPlain, code_in, codes_in, ends_before_code, field_front, last_five, next}

pub five-on : (five : ℕ) (xs ys : List ℕ) → last_five five (xs ++ ys) ≡ last_five (last_five five xs) ys
five-on five [] ys = refl
five-on five (x ∷ xs) ys = five-on (next five x) xs ys

pub codes-on : (five : ℕ) (xs ys : List ℕ) → codes_in five (xs ++ ys) ≡ codes_in five xs ++ codes_in (last_five five xs) ys
codes-on five [] ys = refl
codes-on five (x ∷ xs) ys =
    ap (λ l. code_in (next five x) ++ l) (codes-on (next five x) xs ys)
    ∙ sym (append_assoc (code_in (next five x)) (codes_in (next five x) xs) (codes_in (last_five (next five x) xs) ys))

-- what a part leaves is left for the rest
pub passed_on : (five after : ℕ) (codes more part rest : List ℕ) → after ≡ last_five five part → more ≡ codes ++ codes_in five part
    → (last_five after rest ≡ last_five five (part ++ rest)) × (more ++ codes_in after rest ≡ codes ++ codes_in five (part ++ rest))
passed_on five after codes more part rest f m = (
  ap (λ n. last_five n rest) f ∙ sym (five-on five part rest),
  ap (λ l. l ++ codes_in after rest) m ∙ ap (λ n. (codes ++ codes_in five part) ++ codes_in n rest) f
      ∙ append_assoc codes (codes_in five part) (codes_in (last_five five part) rest)
      ∙ ap (λ l. codes ++ l) (sym (codes-on five part rest)),
)

-- ---- bytes without a B

third : (five b : ℕ) → b < 256 → next five b / 65536 % 256 ≡ five / 256 % 256
third five b small = omega arith

second : (five b : ℕ) → b < 256 → next five b / 256 % 256 ≡ five % 256
second five b small = omega arith

first : (five b : ℕ) → b < 256 → next five b % 256 ≡ b
first five b small = omega arith

-- the third of the last five bytes ends a field's front
no_code : (five : ℕ) → ¬ (five / 65536 % 256 ≡ 66) → code_in five ≡ []
no_code five other = elim (cases_Bool (five / 65536 == field_front)) [
  | inl is ↦ absurd (other (ap (λ n. n % 256) (eqb-true (five / 65536) field_front is)))
  | inr not ↦ rw not refl
]

pub plain_codes : (five : ℕ) (bytes : List ℕ) → ((k : ℕ) → get_or bytes k 0 < 256) → ¬ (five % 256 ≡ 66)
    → ¬ (five / 256 % 256 ≡ 66) → IsPlain bytes → codes_in five bytes ≡ []
plain_codes five [] small one two plain = refl
plain_codes five (b ∷ bs) small one two plain =
    let none = no_code (next five b) (λ is. two (sym (third five b (small 0)) ∙ is)) in
    let later = plain_codes (next five b) bs (λ k. small (suc k))
    (λ is. plain 0 (omega arith) (sym (first five b (small 0)) ∙ is))
    (λ is. one (sym (second five b (small 0)) ∙ is))
    (λ k lt. plain (suc k) (omega (arith, lt))) in
    rw (none, later) refl

-- the last two bytes are no B where none is found there
pub no_front : (five : ℕ) → ends_before_code five ≡ false → (¬ (five % 256 ≡ 66)) × (¬ (five / 256 % 256 ≡ 66))
no_front five none =
    let parts = or_parts (five % 256 == 66) (five / 256 % 256 == 66) none in (
      λ is. true≢false (sym (eq-eqb (five % 256) 66 is) ∙ parts.0),
      λ is. true≢false (sym (eq-eqb (five / 256 % 256) 66 is) ∙ parts.1),
    )
