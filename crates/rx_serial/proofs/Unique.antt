-- A list that was sorted, with what is there twice left out.
use Rattle.std.proofs.Common.{◌≡◌, Bool, List, [], ◌∷◌, Decides, refl, sym, ap, ◌∙◌}
use Rattle.std.specs.Prelude.{◌↔◌}
use Rattle.std.specs.List.{AllByRecursion, Contains, dedup}
use Rattle.std.specs.List.Sorted.{IsPermutation, IsSorted, IsStrictlySortedBy}
use Rattle.std.specs.List.Retain.{DiffersFromLast, IsFiltered}
use Rattle.std.specs.Cmp.{IsEquivalence, IsTotalOrder}
use Rattle.std.specs.Ordering.{eq_by_cmp, is_eq}
use Rattle.std.specs.declared.cmp.Ordering.{Ordering}
use Rattle.std.specs.declared.cmp.Ordering.TheVariants.{Less}
use Rattle.std.proofs.lemmas.Bool.Decides.{same_from_decides}
use Rattle.std.proofs.lemmas.Cmp.{tied_itself}
use Rattle.std.proofs.lemmas.List.Filters.{dedup_is}
use Rattle.std.proofs.lemmas.List.Kept.{Contains-dedup, Contains-from_dedup, IsStrictlySortedBy-dedup}
use Rattle.std.proofs.lemmas.List.Sorted.{Contains-permutation, IsPermutation-sym}
use Rattle.std.proofs.lemmas.Map.Lookups.{CmpEqualImpliesEq}
use Rattle.rx_sorted.specs.Ascending.{IsAscending, IsBelow}
use Rattle.rx_sorted.proofs.Keys.{Equal-from_is_eq}

module _ {K : Type 0} (cmp : K → K → Ordering) (order : IsTotalOrder cmp) (exact : CmpEqualImpliesEq cmp)
    (same : K → K → Bool) (decides : (x y : K) → Decides (same x y) (x ≡ y)) where
  by_cmp : (x y : K) → Decides (is_eq (cmp x y)) (x ≡ y)
  by_cmp x y = (
    λ t. exact x y (Equal-from_is_eq _ t),
    λ e. ap (λ z. is_eq (cmp x z)) (sym e) ∙ ap is_eq (tied_itself order x),
  )

  ties : (x y : K) → same x y ≡ eq_by_cmp cmp x y
  ties x y = same_from_decides (same x y) (is_eq (cmp x y)) (decides x y) (by_cmp x y)

  turned : (x y : K) → Decides (same y x) (x ≡ y)
  turned x y = (λ t. sym ((decides y x).0 t), λ e. (decides y x).1 (sym e))

  equivalence : IsEquivalence same
  equivalence =
      record {
        refl = λ x. (decides x x).1 refl;
        symm = λ x y. same_from_decides (same x y) (same y x) (decides x y) (turned x y);
        congr = λ x y z t. ap (λ w. same w z) ((decides x y).0 t);
      }

  below : (k : K) (xs : List K) → AllByRecursion (λ y. cmp k y ≡ Less) xs → IsBelow cmp (λ x. x) k xs
  below k [] all = tt
  below k (x ∷ xs) all = (all.0, below k xs all.1)

  rising : (xs : List K) → IsStrictlySortedBy cmp xs → IsAscending cmp (λ x. x) xs
  unfolding IsStrictlySortedBy
  rising [] sorted = tt
  rising (x ∷ xs) sorted = (below x xs sorted.0, rising xs sorted.1)

  module _ (given xs ys : List K) (moved : IsPermutation given xs) (sorted : IsSorted cmp xs)
      (filtered : IsFiltered (DiffersFromLast same) [] xs ys) where
    -- it ascends, and has what was given
    pub unique_rise : IsAscending cmp (λ x. x) ys
    unique_rise = rw (dedup_is same xs ys filtered)
        (rising (dedup same xs) (IsStrictlySortedBy-dedup order ties xs sorted))

    pub unique_keys : (k : K) → Contains ys k ↔ Contains given k
    unique_keys k = rw (dedup_is same xs ys filtered) (
      λ there. Contains-permutation xs given k (IsPermutation-sym given xs moved) (Contains-from_dedup same xs k there),
      λ there. Contains-dedup equivalence (λ x y. (decides x y).0) xs k (Contains-permutation given xs k moved there),
    )
