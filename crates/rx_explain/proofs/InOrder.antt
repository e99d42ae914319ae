-- Lists in order that have the same items, each as often, are one list.
use Rattle.std.proofs.Common.{◌≡◌, ℕ, suc, ◌+◌, cond, true, false, List, [], ◌∷◌, map, get_or, refl, ap, sym, subst, ◌∙◌, inl, inr, arith}
use Rattle.std.specs.Cmp.{IsTotalOrder}
use Rattle.std.specs.List.{AllByRecursion, sum_by}
use Rattle.std.specs.List.Sorted.{IsSortedByKey}
use Rattle.std.specs.Ordering.{is_eq, is_lt, ordering_reverse}
use Rattle.std.specs.declared.cmp.Ordering.{Ordering}
use Rattle.std.specs.declared.cmp.Ordering.TheVariants.{Less}
use Rattle.std.proofs.lemmas.Cmp.{tied_itself}
use Rattle.std.proofs.lemmas.List.Elements.{recursion_from_All}
use Rattle.std.proofs.lemmas.List.Sorted.{ranks_by, sorted_far}
use Rattle.std.proofs.lemmas.List.Sums.{sum_by-cons}
use Rattle.std.proofs.lemmas.Map.Lookups.{CmpEqualImpliesEq}
use Rattle.rx_sorted.proofs.Keys.{cases_Ordering}

-- no item is less than one that stands before it
abbrev pub Rises : {K : Type 0} → (K → K → Ordering) → List K → Type 0
Rises cmp [] = Unit {0}
Rises cmp (k ∷ ks) = AllByRecursion (λ j. is_lt (cmp j k) ≡ false) ks × Rises cmp ks

-- how often an item is in a list
abbrev pub one_if : {K : Type 0} → (K → K → Ordering) → K → K → ℕ
one_if cmp j i = cond (is_eq (cmp i j)) 1 0

abbrev pub times : {K : Type 0} → (K → K → Ordering) → K → List K → ℕ
times cmp j ks = sum_by (one_if cmp j) ks

module _ {K : Type 0} (cmp : K → K → Ordering) (order : IsTotalOrder cmp) where
  itself_once : (k : K) → one_if cmp k k ≡ 1
  itself_once k = rw (tied_itself order k) refl

  -- what is less than an item isn't one that is no less
  other : (j k i : K) → cmp j k ≡ Less → is_lt (cmp i k) ≡ false → one_if cmp j i ≡ 0
  other j k i less above = elim (cases_Ordering (cmp i j)) [
    | inl before ↦ rw before refl
    | inr (inl tied) ↦
        absurd (let e : true ≡ false = sym (ap is_lt (order.congr i j k tied ∙ less)) ∙ above in cc)
    | inr (inr over) ↦ rw over refl
  ]

  none : (j k : K) (ks : List K) → cmp j k ≡ Less → AllByRecursion (λ i. is_lt (cmp i k) ≡ false) ks → times cmp j ks ≡ 0
  none j k [] less above = refl
  none j k (i ∷ ks) less above =
      let both : times cmp j (i ∷ ks) ≡ one_if cmp j i + times cmp j ks = sum_by-cons (one_if cmp j) i ks in
      let here : one_if cmp j i ≡ 0 = other j k i less above.0 in
      let rest : times cmp j ks ≡ 0 = none j k ks less above.1 in
      omega arith

  -- the first item of a list in order isn't less than that of another that has the same items
  apart : (j k : K) (js ks : List K) → cmp j k ≡ Less → Rises cmp (k ∷ ks)
      → ((i : K) → times cmp i (j ∷ js) ≡ times cmp i (k ∷ ks)) → ⊥
  apart j k js ks less rise as_often =
      let left : times cmp j (j ∷ js) ≡ one_if cmp j j + times cmp j js = sum_by-cons (one_if cmp j) j js in
      let right : times cmp j (k ∷ ks) ≡ one_if cmp j k + times cmp j ks = sum_by-cons (one_if cmp j) k ks in
      let once : one_if cmp j j ≡ 1 = itself_once j in
      let here : one_if cmp j k ≡ 0 = other j k k less (ap is_lt (tied_itself order k)) in
      let rest : times cmp j ks ≡ 0 = none j k ks less rise.0 in
      let same : times cmp j (j ∷ js) ≡ times cmp j (k ∷ ks) = as_often j in
      omega arith

  some : (k : K) (ks : List K) → times cmp k [] ≡ times cmp k (k ∷ ks) → ⊥
  some k ks same =
      let both : times cmp k (k ∷ ks) ≡ one_if cmp k k + times cmp k ks = sum_by-cons (one_if cmp k) k ks in
      let once : one_if cmp k k ≡ 1 = itself_once k in
      let nothing : times cmp k [] ≡ 0 = refl in
      omega arith

  module _ (exact : CmpEqualImpliesEq cmp) where
    pub one_list : (js ks : List K) → Rises cmp js → Rises cmp ks → ((i : K) → times cmp i js ≡ times cmp i ks) → js ≡ ks
    one_list [] [] rise up as_often = refl
    one_list [] (k ∷ ks) rise up as_often = absurd (some k ks (as_often k))
    one_list (j ∷ js) [] rise up as_often = absurd (some j js (sym (as_often j)))
    one_list (j ∷ js) (k ∷ ks) rise up as_often = elim (cases_Ordering (cmp j k)) [
      | inl less ↦ absurd (apart j k js ks less up as_often)
      | inr (inl tied) ↦
          let same : j ≡ k = exact j k tied in
          ap (λ i. i ∷ js) same ∙ ap (λ is. k ∷ is) (one_list js ks rise.1 up.1 (λ i.
          let left : times cmp i (j ∷ js) ≡ one_if cmp i j + times cmp i js = sum_by-cons (one_if cmp i) j js in
          let right : times cmp i (k ∷ ks) ≡ one_if cmp i k + times cmp i ks = sum_by-cons (one_if cmp i) k ks in
          let first : one_if cmp i j ≡ one_if cmp i k = ap (one_if cmp i) same in
          let all : times cmp i (j ∷ js) ≡ times cmp i (k ∷ ks) = as_often i in
          omega arith))
      | inr (inr more) ↦
          absurd (apart k j ks js (order.antisymm k j ∙ ap ordering_reverse more) rise (λ i. sym (as_often i)))
    ]

-- ---- after a sort by a key

module _ {X K : Type 0} (cmp : K → K → Ordering) (order : IsTotalOrder cmp) (key : X → K) where
  of_keys : (k : K) (xs : List X) → AllByRecursion (λ y. is_lt (cmp (key y) k) ≡ false) xs
      → AllByRecursion (λ j. is_lt (cmp j k) ≡ false) (map key xs)
  of_keys k [] above = tt
  of_keys k (x ∷ xs) above = (above.0, of_keys k xs above.1)

  later : (x : X) (xs : List X) → IsSortedByKey key cmp (x ∷ xs) → IsSortedByKey key cmp xs
  later x xs up = λ k d low within.
      let one : suc k + 1 ≡ suc (k + 1) = omega arith in
      subst (λ n. is_lt (cmp (key (get_or (x ∷ xs) n d)) (key (get_or xs k d))) ≡ false) one
      (up (suc k) d (omega arith) (omega arith))

  pub rises : (xs : List X) → IsSortedByKey key cmp xs → Rises cmp (map key xs)
  rises [] up = tt
  rises (x ∷ xs) up = (
    of_keys (key x) xs (recursion_from_All (λ y. is_lt (cmp (key y) (key x)) ≡ false) xs (λ k d within.
        sorted_far (λ y z. is_lt (cmp (key y) (key z))) (ranks_by order key) (x ∷ xs) up 0 (suc k) d (omega arith) (omega arith))),
    rises xs (later x xs up),
  )
