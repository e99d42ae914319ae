-- Lists that stand for themselves, in order and each item once: they are determined by what is among them.
use Rattle.std.proofs.Common.{◌≡◌, ◌++◌, false, Bool, true, cond, ◌||◌, List, [], ◌∷◌}
use Rattle.std.proofs.Common.{map, Some, None, Option, refl, ap, sym, ◌∙◌, inl, inr}
use Rattle.std.specs.Cmp.{IsTotalOrder}
use Rattle.std.specs.List.{All, AllByRecursion, dedup, flat_map, fold, list_any}
use Rattle.std.specs.List.Sorted.{IsPermutation, IsSorted, IsStrictlySortedBy}
use Rattle.std.specs.Option.{is_some, option_or}
use Rattle.std.specs.Ordering.{eq_by_cmp, is_eq}
use Rattle.std.specs.declared.cmp.Ordering.{Ordering}
use Rattle.std.specs.declared.cmp.Ordering.TheVariants.{Less}
use Rattle.std.proofs.lemmas.Bool.{cases_Bool}
use Rattle.std.proofs.lemmas.Cmp.{eq_by_cmp_equiv}
use Rattle.std.proofs.lemmas.List.Elements.{All-head, All-tail}
use Rattle.std.proofs.lemmas.List.Kept.{Contains-dedup, Contains-from_dedup, IsStrictlySortedBy-dedup}
use Rattle.std.proofs.lemmas.List.Sorted.{list_any-IsPermutation}
use Rattle.std.proofs.lemmas.Map.Lookups.{CmpEqualImpliesEq}
use Rattle.std.proofs.lemmas.Map.Views.{Contains-from_any, list_any-from_Contains}
use Rattle.rx_sorted.specs.Ascending.{IsAscending, IsBelow, contains_key, item_at, itself, put_all}
use Rattle.rx_sorted.specs.Joined.{joined}
use Rattle.rx_sorted.proofs.Edits.{same_items}
use Rattle.rx_sorted.proofs.Joined.{IsAscending-joined}
use Rattle.rx_sorted.proofs.Keys.{Equal-from_is_eq}
use Rattle.rx_sorted.proofs.LookUps.{item_at-put_all}

module _ {K : Type 0} (cmp : K → K → Ordering) (order : IsTotalOrder cmp) (exact : CmpEqualImpliesEq cmp) where
  -- what is found by a key that stands for itself
  found : (xs : List K) (k : K) → item_at cmp itself xs k ≡ cond (list_any (eq_by_cmp cmp k) xs) (Some k) None
  found [] k = refl
  found (x ∷ xs) k =
      let turn : is_eq (cmp x k) ≡ eq_by_cmp cmp k x = (eq_by_cmp_equiv order).symm x k in
      elim (cases_Bool (eq_by_cmp cmp k x)) [
        | inl here ↦ rw (turn, here) (ap Some (sym (exact k x (Equal-from_is_eq _ here))))
        | inr other ↦ rw (turn, other) (found xs k)
      ]

  told_some : {A : Type 0} (x : A) (b : Bool) → is_some (cond b (Some x) None) ≡ b
  told_some x true = refl
  told_some x false = refl

  among : (xs : List K) (k : K) → contains_key cmp itself xs k ≡ list_any (eq_by_cmp cmp k) xs
  among xs k = ap is_some (found xs k) ∙ told_some k (list_any (eq_by_cmp cmp k) xs)

  -- ascending lists that have the same items are one
  pub one_list : (xs ys : List K) → IsAscending cmp itself xs → IsAscending cmp itself ys
      → ((k : K) → contains_key cmp itself xs k ≡ contains_key cmp itself ys k) → xs ≡ ys
  one_list xs ys a b h = same_items cmp order itself xs ys a b
      (λ k. found xs k ∙ ap (λ t. cond t (Some k) None) (sym (among xs k) ∙ h k ∙ among ys k) ∙ sym (found ys k))

  -- ---- a list that is sorted and then left without repeats

  below_all : (x : K) (xs : List K) → AllByRecursion (λ y. cmp x y ≡ Less) xs → IsBelow cmp itself x xs
  below_all x [] h = tt
  below_all x (y ∷ ys) h = (h.0, below_all x ys h.1)

  ascends : (xs : List K) → IsStrictlySortedBy cmp xs → IsAscending cmp itself xs
  unfolding IsStrictlySortedBy
  ascends [] h = tt
  ascends (x ∷ xs) h = (below_all x xs h.0, ascends xs h.1)

  told : (a b : K) → eq_by_cmp cmp a b ≡ true → a ≡ b
  told a b h = exact a b (Equal-from_is_eq _ h)

  among-dedup : (xs : List K) (k : K)
      → list_any (eq_by_cmp cmp k) (dedup (eq_by_cmp cmp) xs) ≡ list_any (eq_by_cmp cmp k) xs
  among-dedup xs k =
      let laws = eq_by_cmp_equiv order in
      elim (cases_Bool (list_any (eq_by_cmp cmp k) xs)) [
        | inl there ↦ list_any-from_Contains laws k (dedup (eq_by_cmp cmp) xs)
            (Contains-dedup laws told xs k (Contains-from_any told k xs there)) ∙ sym there
        | inr none ↦ elim (cases_Bool (list_any (eq_by_cmp cmp k) (dedup (eq_by_cmp cmp) xs))) [
          | inl kept ↦ kept ∙ sym (list_any-from_Contains laws k xs
              (Contains-from_dedup (eq_by_cmp cmp) xs k (Contains-from_any told k (dedup (eq_by_cmp cmp) xs) kept)))
          | inr gone ↦ gone ∙ sym none
        ]
      ]

  module _ (given sorted : List K) (moved : IsPermutation given sorted) (in_order : IsSorted cmp sorted) where
    pub dedup_rises : IsAscending cmp itself (dedup (eq_by_cmp cmp) sorted)
    dedup_rises = ascends (dedup (eq_by_cmp cmp) sorted) (IsStrictlySortedBy-dedup order (λ x y. refl) sorted in_order)

    pub dedup_has : (k : K) → contains_key cmp itself (dedup (eq_by_cmp cmp) sorted) k ≡ contains_key cmp itself given k
    dedup_has k = among (dedup (eq_by_cmp cmp) sorted) k ∙ among-dedup sorted k
        ∙ sym (list_any-IsPermutation (eq_by_cmp cmp k) given sorted moved) ∙ sym (among given k)

  -- ---- lists one after the other, and put together

  has_either : (xs ys : List K) (k : K)
      → contains_key cmp itself (xs ++ ys) k ≡ (contains_key cmp itself xs k || contains_key cmp itself ys k)
  has_either [] ys k = refl
  has_either (x ∷ xs) ys k = elim (cases_Bool (is_eq (cmp x k))) [ inl t ↦ rw t refl | inr n ↦ rw n (has_either xs ys k) ]

  pub flat_has : {A : Type 0} (f : A → List K) (xs : List A) (k : K)
      → contains_key cmp itself (flat_map f xs) k ≡ list_any (λ x. contains_key cmp itself (f x) k) xs
  flat_has f [] k = refl
  flat_has f (x ∷ xs) k = has_either (f x) (flat_map f xs) k ∙ ap (λ t. contains_key cmp itself (f x) k || t) (flat_has f xs k)

  some_or : (a b : Option K) → is_some (option_or a b) ≡ (is_some a || is_some b)
  some_or None b = refl
  some_or (Some x) b = refl

  turned : (a b c : Bool) → ((b || a) || c) ≡ (a || (b || c))
  turned true true c = refl
  turned true false c = refl
  turned false true c = refl
  turned false false c = refl

  onto_has : {A : Type 0} (f : A → List K) (xs : List A) (part : List K) (k : K) → All (λ x. IsAscending cmp itself (f x)) xs
      → contains_key cmp itself (fold (put_all cmp itself) part (map f xs)) k
      ≡ (contains_key cmp itself part k || list_any (λ x. contains_key cmp itself (f x) k) xs)
  onto_has f [] part k rise = or_false (contains_key cmp itself part k)
    where
      or_false : (t : Bool) → t ≡ (t || false)
      or_false true = refl
      or_false false = refl
  onto_has {A} f (x ∷ xs) part k rise =
      let P : A → Type 0 = λ y. IsAscending cmp itself (f y) in
      onto_has f xs (put_all cmp itself part (f x)) k (All-tail P x xs rise)
      ∙ ap (λ o. is_some o || list_any (λ y. contains_key cmp itself (f y) k) xs)
      (item_at-put_all cmp order itself part (f x) k (All-head P x xs rise))
      ∙ ap (λ t. t || list_any (λ y. contains_key cmp itself (f y) k) xs)
      (some_or (item_at cmp itself (f x) k) (item_at cmp itself part k))
      ∙ turned (contains_key cmp itself part k) (contains_key cmp itself (f x) k) (list_any (λ y. contains_key cmp itself (f y) k) xs)

  pub joined_has : {A : Type 0} (f : A → List K) (xs : List A) (k : K) → All (λ x. IsAscending cmp itself (f x)) xs
      → contains_key cmp itself (joined cmp itself (map f xs)) k ≡ list_any (λ x. contains_key cmp itself (f x) k) xs
  joined_has f xs k rise = onto_has f xs [] k rise

  -- what was gathered, sorted and left without repeats is all lists put together
  pub gathered_is : {A : Type 0} (f : A → List K) (xs : List A) (ys : List K) → All (λ x. IsAscending cmp itself (f x)) xs
      → IsAscending cmp itself ys → ((k : K) → contains_key cmp itself ys k ≡ contains_key cmp itself (flat_map f xs) k)
      → ys ≡ joined cmp itself (map f xs)
  gathered_is f xs ys rise in_order has =
      one_list ys (joined cmp itself (map f xs)) in_order (IsAscending-joined cmp order itself (map f xs))
      (λ k. has k ∙ flat_has f xs k ∙ sym (joined_has f xs k rise))
