-- What is found is one of a list, and passes.
use Rattle.std.proofs.Common.{◌≡◌, suc, Bool, true, List, [], ◌∷◌, Some, None, inl, inr, subst, arith}
use Rattle.std.specs.List.{All, find}
use Rattle.std.proofs.lemmas.Bool.{cases_Bool}
use Rattle.std.proofs.lemmas.Option.{same_Some}

pub found_is : {X : Type 0} (P : X → Type 0) (p : X → Bool) (xs : List X) (k : X) → All P xs → find p xs ≡ Some k → P k
found_is {X} P p [] k all is = absurd (let e : None ≡ Some k = is in cc)
found_is {X} P p (x ∷ xs) k all is = elim (cases_Bool (p x)) [
  | inl passes ↦ let e : Some x ≡ Some k = rw passes at is in subst P (same_Some x k e) (all 0 x (omega arith))
  | inr fails ↦ found_is P p xs k (λ i d lt. all (suc i) d (omega (arith, lt))) (rw fails at is)
]

pub found_passes : {X : Type 0} (p : X → Bool) (xs : List X) (k : X) → find p xs ≡ Some k → p k ≡ true
found_passes {X} p [] k is = absurd (let e : None ≡ Some k = is in cc)
found_passes {X} p (x ∷ xs) k is = elim (cases_Bool (p x)) [
  | inl passes ↦ let e : Some x ≡ Some k = rw passes at is in subst (λ (y : X). p y ≡ true) (same_Some x k e) passes
  | inr fails ↦ found_passes p xs k (rw fails at is)
]
