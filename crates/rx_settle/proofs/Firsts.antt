-- The first of each kind in a list: those that are the same as none before them.
use Rattle.std.proofs.Common.{◌≡◌, Bool, true, false, not, ◌||◌, cond, List, [], ◌∷◌, ◌++◌, refl, sym, ap, ◌∙◌, inl, inr}
use Rattle.std.specs.Prelude.{⊤}
use Rattle.std.specs.Cmp.{IsEquivalence}
use Rattle.std.specs.List.{filter, list_any}
use Rattle.std.proofs.lemmas.Bool.{cases_Bool}
use Rattle.std.proofs.lemmas.List.{append-nil}
use Rattle.std.proofs.lemmas.List.Elements.{filter-append}

module _ {X : Type 0} (same : X → X → Bool) where
  -- those of another kind
  abbrev pub others : X → List X → List X
  others x ys = filter (λ y. not (same x y)) ys

  -- the first of each kind, in order
  abbrev pub firsts : List X → List X
  firsts [] = []
  firsts (x ∷ xs) = x ∷ others x (firsts xs)

  -- there is one of the kind of x
  abbrev pub seen : X → List X → Bool
  seen x xs = list_any (same x) xs

  -- no two of one kind
  abbrev pub Distinct : List X → Type 0
  Distinct [] = ⊤
  Distinct (x ∷ xs) = (seen x xs ≡ false) × Distinct xs

  module _ (laws : IsEquivalence same) where
    -- what is the same as x is the same as what x is
    pub seen_alike : (x y : X) (zs : List X) → same x y ≡ true → seen x zs ≡ seen y zs
    seen_alike x y [] e = refl
    seen_alike x y (z ∷ zs) e = λ j. laws.congr x y z e j || seen_alike x y zs e j

    -- those of another kind keep all of the kind of x
    seen-others : (x r : X) (ys : List X) → same x r ≡ false → seen x (others r ys) ≡ seen x ys
    seen-others x r [] e = refl
    seen-others x r (y ∷ ys) e = elim (cases_Bool (same r y)) [
      | inl here ↦
          let gone : same x y ≡ false = laws.symm x y ∙ sym (laws.congr r y x here) ∙ laws.symm r x ∙ e in
          rw (here, gone) (seen-others x r ys e)
      | inr other ↦ rw other (ap (λ b. same x y || b) (seen-others x r ys e))
    ]

    -- and none of their own
    unseen : (x : X) (ys : List X) → seen x (others x ys) ≡ false
    unseen x [] = refl
    unseen x (y ∷ ys) = elim (cases_Bool (same x y)) [
      | inl here ↦ rw here (unseen x ys)
      | inr other ↦ rw (other, unseen x ys) (rw other refl)
    ]

    Distinct-others : (x : X) (ys : List X) → Distinct ys → Distinct (others x ys)
    Distinct-others x [] d = d
    Distinct-others x (y ∷ ys) d = elim (cases_Bool (same x y)) [
      | inl here ↦ rw here (Distinct-others x ys d.1)
      | inr other ↦ rw other (seen-others y x ys (laws.symm y x ∙ other) ∙ d.0, Distinct-others x ys d.1)
    ]

    -- the firsts are of different kinds
    pub Distinct-firsts : (xs : List X) → Distinct (firsts xs)
    Distinct-firsts [] = tt
    Distinct-firsts (x ∷ xs) = (unseen x (firsts xs), Distinct-others x (firsts xs) (Distinct-firsts xs))

    -- one more is a first where none of its kind is
    pub firsts-push : (xs : List X) (x : X)
        → firsts (xs ++ x ∷ []) ≡ cond (seen x (firsts xs)) (firsts xs) (firsts xs ++ x ∷ [])
    firsts-push [] x = refl
    firsts-push (r ∷ rs) x = elim (cases_Bool (same x r)) [
      | inl here ↦ rw (firsts-push rs x, here) (elim (cases_Bool (seen x (firsts rs))) [
        | inl old ↦ rw old refl
        | inr new ↦
            let gone : others r (x ∷ []) ≡ [] = rw (laws.symm r x ∙ here) refl in
            rw new (ap (λ ys. r ∷ ys) (filter-append (λ y. not (same r y)) (firsts rs) (x ∷ [])
            ∙ ap (λ ys. others r (firsts rs) ++ ys) gone ∙ append-nil (others r (firsts rs))))
      ])
      | inr other ↦ rw (firsts-push rs x, other, seen-others x r (firsts rs) other) (elim (cases_Bool (seen x (firsts rs))) [
        | inl old ↦ rw old refl
        | inr new ↦
            let kept : others r (x ∷ []) ≡ x ∷ [] = rw (laws.symm r x ∙ other) refl in
            rw new (ap (λ ys. r ∷ ys) (filter-append (λ y. not (same r y)) (firsts rs) (x ∷ [])
            ∙ ap (λ ys. others r (firsts rs) ++ ys) kept))
      ])
    ]

    -- where no first is of the kind of x, nothing is
    pub none_alike : (x : X) (xs : List X) → seen x (firsts xs) ≡ false → filter (same x) xs ≡ []
    none_alike x [] e = refl
    none_alike x (r ∷ rs) e = elim (cases_Bool (same x r)) [
      | inl here ↦ absurd (let h = rw here at e in cc)
      | inr other ↦ rw other (none_alike x rs (sym (seen-others x r (firsts rs) other) ∙ (rw other at e)))
    ]
