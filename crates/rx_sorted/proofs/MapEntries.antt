-- The entries of a `BTreeMap` are a list in the ascending order of their keys, and so are its values, where each value
-- has its key.
use Rattle.std.proofs.Common.{◌≡◌, List, [], ◌∷◌, cond, Some, refl, sym, ap}
use Rattle.std.proofs.Common.{inl, inr}
use Rattle.std.specs.BTreeMap.{insert_entry, is_at}
use Rattle.std.specs.Cmp.{IsTotalOrder, eq_by_cmp_equiv}
use Rattle.std.specs.List.{All, AllByRecursion}
use Rattle.std.specs.List.Sorted.{IsStrictlySortedBy}
use Rattle.std.specs.Map.{keys_of, lookup, remove_entry, values_of}
use Rattle.std.specs.Option.{option_map}
use Rattle.std.specs.Ordering.{is_eq}
use Rattle.std.specs.declared.cmp.Ordering.{Ordering}
use Rattle.std.specs.declared.cmp.Ordering.TheVariants.{Less, Equal, Greater}
use Rattle.std.proofs.lemmas.Bool.{cases_Bool}
use Rattle.std.proofs.lemmas.Cmp.{tied_back}
use Rattle.std.proofs.lemmas.List.Elements.{All-head, All-tail}
use Rattle.std.proofs.lemmas.Map.Lookups.{CmpEqualImpliesEq}
use Rattle.rx_sorted.specs.Ascending.{has_key, IsAscending, IsBelow, item_at, put, without}
use Rattle.rx_sorted.proofs.Keys.{cases_Ordering, Equal-from_is_eq, Greater-from_Less, IsBelow-tied, Less-from_Greater}
use Rattle.rx_sorted.proofs.Keys.{without-below}

module _ {K X : Type 0} (cmp : K → K → Ordering) (order : IsTotalOrder cmp) where
  -- both ask whether a key is the query
  is_at-has_key : (k : K) (e : K × X) → is_at (cmp k) e.0 ≡ has_key cmp (λ (f : K × X). f.0) k e
  is_at-has_key k e = (eq_by_cmp_equiv order).symm k e.0

  below_keys : (k : K) (es : List (K × X)) → AllByRecursion (λ j. cmp k j ≡ Less) (keys_of es)
      → IsBelow cmp (λ (e : K × X). e.0) k es
  below_keys k [] h = tt
  below_keys k (e ∷ es) h = (h.0, below_keys k es h.1)

  -- from the clause `ordered` of a map
  pub IsAscending-entries : (es : List (K × X)) → IsStrictlySortedBy cmp (keys_of es)
      → IsAscending cmp (λ (e : K × X). e.0) es
  unfolding IsStrictlySortedBy
  IsAscending-entries [] h = tt
  IsAscending-entries (e ∷ es) h = (below_keys e.0 es h.0, IsAscending-entries es h.1)

  pub lookup-entries : (es : List (K × X)) (k : K)
      → lookup (is_at (cmp k)) es ≡ option_map (λ (e : K × X). e.1) (item_at cmp (λ (e : K × X). e.0) es k)
  lookup-entries [] k = refl
  lookup-entries (e ∷ es) k = rw (is_at-has_key k e) (elim (cases_Bool (is_eq (cmp e.0 k))) [
    | inl t ↦ rw t
    | inr f ↦ rw f (lookup-entries es k)
  ])

  pub insert_entry-put : CmpEqualImpliesEq cmp → (es : List (K × X)) (k : K) (x : X)
      → insert_entry cmp es k x ≡ put cmp (λ (e : K × X). e.0) es (k, x)
  insert_entry-put exact [] k x = refl
  insert_entry-put exact (e ∷ es) k x = elim (cases_Ordering (cmp e.0 k)) [
    | inl less ↦
        let more : cmp k e.0 ≡ Greater = Greater-from_Less cmp order (λ (f : K × X). f.0) e.0 k less in
        rw (less, more) (ap (λ fs. e ∷ fs) (insert_entry-put exact es k x))
    | inr (inl tied) ↦
        let back : cmp k e.0 ≡ Equal = tied_back order e.0 k tied in
        rw (tied, back) (ap (λ j. (j, x) ∷ es) (exact e.0 k tied))
    | inr (inr more) ↦
        let less : cmp k e.0 ≡ Less = Less-from_Greater cmp order (λ (f : K × X). f.0) e.0 k more in
        rw (more, less)
  ]

  pub remove_entry-without : (es : List (K × X)) (k : K) → IsAscending cmp (λ (e : K × X). e.0) es
      → remove_entry (is_at (cmp k)) es ≡ without cmp (λ (e : K × X). e.0) es k
  remove_entry-without [] k a = refl
  remove_entry-without (e ∷ es) k a = rw (is_at-has_key k e) (elim (cases_Bool (is_eq (cmp e.0 k))) [
    | inl t ↦
        let tied : cmp k e.0 ≡ Equal = tied_back order e.0 k (Equal-from_is_eq _ t) in
        rw t (sym (without-below cmp order (λ (f : K × X). f.0) k es
        (IsBelow-tied cmp order (λ (f : K × X). f.0) k e.0 es tied a.0)))
    | inr f ↦ rw f (ap (λ fs. e ∷ fs) (remove_entry-without es k a.1))
  ])

  -- ---- values that have their keys

  module _ (key : X → K) where
    pub lookup-values : (es : List (K × X)) (k : K) → All (λ e. key e.1 ≡ e.0) es
        → lookup (is_at (cmp k)) es ≡ item_at cmp key (values_of es) k
    lookup-values [] k keyed = refl
    lookup-values (e ∷ es) k keyed =
        let P : K × X → Type 0 = λ f. key f.1 ≡ f.0 in
        rw (is_at-has_key k e, All-head P e es keyed)
        (ap (λ r. cond (is_eq (cmp e.0 k)) (Some e.1) r) (lookup-values es k (All-tail P e es keyed)))

    below_values : (k : K) (es : List (K × X)) → All (λ e. key e.1 ≡ e.0) es
        → AllByRecursion (λ j. cmp k j ≡ Less) (keys_of es) → IsBelow cmp key k (values_of es)
    below_values k [] keyed h = tt
    below_values k (e ∷ es) keyed h =
        let P : K × X → Type 0 = λ f. key f.1 ≡ f.0 in
        (rw (All-head P e es keyed) h.0, below_values k es (All-tail P e es keyed) h.1)

    pub IsAscending-values : (es : List (K × X)) → All (λ e. key e.1 ≡ e.0) es
        → IsStrictlySortedBy cmp (keys_of es) → IsAscending cmp key (values_of es)
    unfolding IsStrictlySortedBy
    IsAscending-values [] keyed h = tt
    IsAscending-values (e ∷ es) keyed h =
        let P : K × X → Type 0 = λ f. key f.1 ≡ f.0 in
        let same : key e.1 ≡ e.0 = All-head P e es keyed in
        (rw same (below_values e.0 es (All-tail P e es keyed) h.0), IsAscending-values es (All-tail P e es keyed) h.1)
