-- The ascending list of some items is determined by which items are among them.
use Rattle.std.proofs.Common.{false, Bool, ◌≡◌, true, cond, ◌||◌, List, [], ◌∷◌, Some, None, refl, ap, sym, ◌∙◌, inl, inr}
use Rattle.std.specs.Cmp.{IsTotalOrder}
use Rattle.std.specs.List.{AllByRecursion, dedup, list_any}
use Rattle.std.specs.List.Sorted.{IsPermutation, IsSorted, IsStrictlySortedBy}
use Rattle.std.specs.Option.{is_some}
use Rattle.std.specs.Ordering.{eq_by_cmp, is_eq}
use Rattle.std.specs.declared.cmp.Ordering.{Ordering}
use Rattle.std.specs.declared.cmp.Ordering.TheVariants.{Less}
use Rattle.std.proofs.lemmas.Bool.{cases_Bool}
use Rattle.std.proofs.lemmas.Cmp.{eq_by_cmp_equiv}
use Rattle.std.proofs.lemmas.List.Kept.{Contains-dedup, Contains-from_dedup, IsStrictlySortedBy-dedup}
use Rattle.std.proofs.lemmas.List.Sorted.{list_any-IsPermutation}
use Rattle.std.proofs.lemmas.Map.Lookups.{CmpEqualImpliesEq}
use Rattle.std.proofs.lemmas.Map.Views.{Contains-from_any, list_any-from_Contains}
use Rattle.rx_sorted.specs.Ascending.{IsAscending, IsBelow, contains_key, item_at, itself, put, put_all}
use Rattle.rx_sorted.proofs.Edits.{same_items}
use Rattle.rx_sorted.proofs.Keys.{cases_Ordering, Equal-from_is_eq}
use Rattle.rx_sorted.proofs.Kept.{IsAscending-put_all}
use Rattle.rx_schedule.specs.Footprints.{in_order}
use Rattle.rx_schedule.proofs.Ors.{asked_twice, grouped, or_false, turned}

module _ {K : Type 0} (cmp : K → K → Ordering) (order : IsTotalOrder cmp) (exact : CmpEqualImpliesEq cmp) where
  -- what is among a list with one more, and with many more
  among-put : (xs : List K) (x k : K)
      → list_any (eq_by_cmp cmp k) (put cmp itself xs x) ≡ eq_by_cmp cmp k x || list_any (eq_by_cmp cmp k) xs
  among-put [] x k = refl
  among-put (y ∷ ys) x k = elim (cases_Ordering (cmp y x)) [
    | inl less ↦ rw (less, among-put ys x k)
        (turned (eq_by_cmp cmp k y) (eq_by_cmp cmp k x) (list_any (eq_by_cmp cmp k) ys))
    | inr (inl tied) ↦
        let same : y ≡ x = exact y x tied in
        rw (tied, same) (asked_twice (eq_by_cmp cmp k x) (list_any (eq_by_cmp cmp k) ys))
    | inr (inr more) ↦ rw more refl
  ]

  among-put_all : (xs ys : List K) (k : K)
      → list_any (eq_by_cmp cmp k) (put_all cmp itself xs ys) ≡ list_any (eq_by_cmp cmp k) ys || list_any (eq_by_cmp cmp k) xs
  among-put_all xs [] k = refl
  among-put_all xs (y ∷ ys) k =
      among-put_all (put cmp itself xs y) ys k
      ∙ ap (λ b. list_any (eq_by_cmp cmp k) ys || b) (among-put xs y k)
      ∙ turned (list_any (eq_by_cmp cmp k) ys) (eq_by_cmp cmp k y) (list_any (eq_by_cmp cmp k) xs)
      ∙ sym (grouped (eq_by_cmp cmp k y) (list_any (eq_by_cmp cmp k) ys) (list_any (eq_by_cmp cmp k) xs))

  pub among-in_order : (xs : List K) (k : K)
      → list_any (eq_by_cmp cmp k) (in_order cmp xs) ≡ list_any (eq_by_cmp cmp k) xs
  among-in_order xs k = among-put_all [] xs k ∙ or_false (list_any (eq_by_cmp cmp k) xs)

  pub IsAscending-in_order : (xs : List K) → IsAscending cmp itself (in_order cmp xs)
  IsAscending-in_order xs = IsAscending-put_all cmp order itself [] xs tt

  -- what is found by a key that stands for itself
  found : (xs : List K) (k : K)
      → item_at cmp itself xs k ≡ cond (list_any (eq_by_cmp cmp k) xs) (Some k) None
  found [] k = refl
  found (x ∷ xs) k =
      let turn : is_eq (cmp x k) ≡ eq_by_cmp cmp k x = (eq_by_cmp_equiv order).symm x k in
      elim (cases_Bool (eq_by_cmp cmp k x)) [
        | inl here ↦ rw (turn, here) (ap Some (sym (exact k x (Equal-from_is_eq _ here))))
        | inr other ↦ rw (turn, other) (found xs k)
      ]

  -- a name of the list is one among it
  pub named_in : (xs : List K) (k : K) → contains_key cmp itself xs k ≡ list_any (eq_by_cmp cmp k) xs
  named_in xs k = ap is_some (found xs k) ∙ told_some (list_any (eq_by_cmp cmp k) xs)
    where
      told_some : (b : Bool) → is_some (cond b (Some k) None) ≡ b
      told_some true = refl
      told_some false = refl

  -- ascending lists that have the same items are one
  pub one_list : (xs ys : List K) → IsAscending cmp itself xs → IsAscending cmp itself ys
      → ((k : K) → list_any (eq_by_cmp cmp k) xs ≡ list_any (eq_by_cmp cmp k) ys) → xs ≡ ys
  one_list xs ys a b h = same_items cmp order itself xs ys a b
      (λ k. found xs k ∙ ap (λ t. cond t (Some k) None) (h k) ∙ sym (found ys k))

  pub same_in_order : (xs ys : List K) → ((k : K) → list_any (eq_by_cmp cmp k) xs ≡ list_any (eq_by_cmp cmp k) ys)
      → in_order cmp xs ≡ in_order cmp ys
  same_in_order xs ys h = one_list (in_order cmp xs) (in_order cmp ys) (IsAscending-in_order xs) (IsAscending-in_order ys)
      (λ k. among-in_order xs k ∙ h k ∙ sym (among-in_order ys k))

  -- a list that is sorted and then left without repeats
  below_all : (x : K) (xs : List K) → AllByRecursion (λ y. cmp x y ≡ Less) xs → IsBelow cmp itself x xs
  below_all x [] h = tt
  below_all x (y ∷ ys) h = (h.0, below_all x ys h.1)

  ascends : (xs : List K) → IsStrictlySortedBy cmp xs → IsAscending cmp itself xs
  unfolding IsStrictlySortedBy
  ascends [] h = tt
  ascends (x ∷ xs) h = (below_all x xs h.0, ascends xs h.1)

  told : (a b : K) → eq_by_cmp cmp a b ≡ true → a ≡ b
  told a b h = exact a b (Equal-from_is_eq _ h)

  among-dedup : (xs : List K) (k : K)
      → list_any (eq_by_cmp cmp k) (dedup (eq_by_cmp cmp) xs) ≡ list_any (eq_by_cmp cmp k) xs
  among-dedup xs k =
      let laws = eq_by_cmp_equiv order in
      elim (cases_Bool (list_any (eq_by_cmp cmp k) xs)) [
        | inl there ↦ list_any-from_Contains laws k (dedup (eq_by_cmp cmp) xs)
            (Contains-dedup laws told xs k (Contains-from_any told k xs there)) ∙ sym there
        | inr none ↦ elim (cases_Bool (list_any (eq_by_cmp cmp k) (dedup (eq_by_cmp cmp) xs))) [
          | inl kept ↦ kept ∙ sym (list_any-from_Contains laws k xs
              (Contains-from_dedup (eq_by_cmp cmp) xs k (Contains-from_any told k (dedup (eq_by_cmp cmp) xs) kept)))
          | inr gone ↦ gone ∙ sym none
        ]
      ]

  pub sorted_once : (xs ys : List K) → IsPermutation xs ys → IsSorted cmp ys → dedup (eq_by_cmp cmp) ys ≡ in_order cmp xs
  sorted_once xs ys moved sorted = one_list (dedup (eq_by_cmp cmp) ys) (in_order cmp xs)
      (ascends (dedup (eq_by_cmp cmp) ys) (IsStrictlySortedBy-dedup order (λ x y. refl) ys sorted))
      (IsAscending-in_order xs)
      (λ k. among-dedup ys k ∙ sym (list_any-IsPermutation (eq_by_cmp cmp k) xs ys moved) ∙ sym (among-in_order xs k))
