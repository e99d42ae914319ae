-- A list without items that a question doesn't ask about answers the question alike.
use Rattle.std.proofs.Common.{◌≡◌, ℕ, ◌+◌, ◌≤◌, List, [], ◌∷◌, Bool, true, false, cond, refl, ap, sym, ◌∙◌, inl, inr, arith, ℤ, pos, ◌-ℤ◌, zero-add}
use Rattle.std.specs.Prelude.{◌&&◌, ◌||◌, find, int_lt, not, sum_by, Some}
use Rattle.std.specs.List.{All, filter, list_all, list_any}
use Rattle.std.proofs.lemmas.Bool.{and_parts, both_ways, cases_Bool}
use Rattle.std.proofs.lemmas.Int.{ints}
use Rattle.std.proofs.lemmas.List.Elements.{All-cons, All-head, All-nil, All-tail}
use Rattle.std.proofs.lemmas.List.Sums.{sum_by-cons}

module _ {X : Type 0} (p : X → Bool) where
  pub find_thinned : (q : X → Bool) (xs : List X) → All (λ x. q x ≡ true → p x ≡ true) xs
      → find q (filter p xs) ≡ find q xs
  find_thinned q [] h = refl
  find_thinned q (x ∷ xs) h =
      let P : X → Type 0 = λ y. q y ≡ true → p y ≡ true in
      let rest : find q (filter p xs) ≡ find q xs = find_thinned q xs (All-tail P x xs h) in
      elim (cases_Bool (p x)) [
        | inl kept ↦ rw kept (ap (λ o. cond (q x) (Some x) o) rest)
        | inr out ↦ elim (cases_Bool (q x)) [
          | inl found ↦ absurd (both_ways _ out (All-head P x xs h found))
          | inr other ↦ rw (out, other) rest
        ]
      ]

  pub any_thinned : (q : X → Bool) (xs : List X) → All (λ x. p x ≡ false → q x ≡ false) xs
      → list_any q (filter p xs) ≡ list_any q xs
  any_thinned q [] h = refl
  any_thinned q (x ∷ xs) h =
      let P : X → Type 0 = λ y. p y ≡ false → q y ≡ false in
      let rest : list_any q (filter p xs) ≡ list_any q xs = any_thinned q xs (All-tail P x xs h) in
      elim (cases_Bool (p x)) [
        | inl kept ↦ rw kept (ap (λ b. q x || b) rest)
        | inr out ↦
            let no : q x ≡ false = All-head P x xs h out in
            rw (out, no) rest
      ]

  pub sum_thinned : (f : X → ℕ) (xs : List X) → All (λ x. p x ≡ false → f x ≡ 0) xs
      → sum_by f (filter p xs) ≡ sum_by f xs
  sum_thinned f [] h = refl
  sum_thinned f (x ∷ xs) h =
      let P : X → Type 0 = λ y. p y ≡ false → f y ≡ 0 in
      let rest : sum_by f (filter p xs) ≡ sum_by f xs = sum_thinned f xs (All-tail P x xs h) in
      elim (cases_Bool (p x)) [
        | inl kept ↦ rw kept (sum_by-cons f x (filter p xs) ∙ ap (λ n. f x + n) rest ∙ sym (sum_by-cons f x xs))
        | inr out ↦
            let none : f x ≡ 0 = All-head P x xs h out in
            rw out (rest ∙ sym (sum_by-cons f x xs ∙ ap (λ n. n + sum_by f xs) none ∙ zero-add (sum_by f xs)))
      ]

  -- what passes p passes q
  pub each_of_filter : (q : X → Bool) (xs : List X) → list_all q (filter p xs) ≡ true
      → All (λ x. p x ≡ true → q x ≡ true) xs
  each_of_filter q [] h = All-nil (λ x. p x ≡ true → q x ≡ true)
  each_of_filter q (x ∷ xs) h =
      let P : X → Type 0 = λ y. p y ≡ true → q y ≡ true in
      elim (cases_Bool (p x)) [
        | inl kept ↦
            let both = and_parts (q x) (list_all q (filter p xs)) (rw kept at h) in
            All-cons P x xs (λ _. both.0) (each_of_filter q xs both.1)
        | inr out ↦
            All-cons P x xs (λ yes. absurd (both_ways _ out yes)) (each_of_filter q xs (rw out at h))
      ]

-- ---- tests

pub false-not : (b : Bool) → not b ≡ true → b ≡ false
false-not true h = cc
false-not false h = refl

pub true-not : (b : Bool) → not b ≡ false → b ≡ true
true-not true h = refl
true-not false h = cc

pub last_fails : (a b c d : Bool) → d ≡ false → (a && b && c && d) ≡ false
last_fails true true true d h = h
last_fails true true false d h = refl
last_fails true false c d h = refl
last_fails false b c d h = refl

-- what isn't below a number isn't below a smaller one
pub not_below : (z : ℤ) (m n : ℕ) → n ≤ m → int_lt z (pos m) ≡ false → int_lt z (pos n) ≡ false
not_below z m n few h = grind (arith, ints)

-- no days have passed on the day itself
pub none_passed : (z : ℤ) → int_lt (pos 0) (z -ℤ z) ≡ false
none_passed z = grind (arith, ints)
