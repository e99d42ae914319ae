-- Lists put in the order of their keys; and such lists with other names, where two keys stay two.
use Rattle.std.proofs.Common.{◌≡◌, ℕ, ◌+◌, List, [], ◌∷◌, map, Bool, false, not, cond, Some, None, refl, sym, ap}
use Rattle.std.proofs.Common.{◌∙◌, inl, inr}
use Rattle.std.specs.Option.{option_map}
use Rattle.std.specs.List.{filter, find, list_any, sum_by}
use Rattle.std.specs.List.Sorted.{IsPermutation}
use Rattle.std.specs.Cmp.{IsTotalOrder}
use Rattle.std.specs.Ordering.{is_eq}
use Rattle.std.specs.declared.cmp.Ordering.{Ordering}
use Rattle.std.proofs.lemmas.Bool.{cases_Bool}
use Rattle.std.proofs.lemmas.Cmp.{alike_right}
use Rattle.std.proofs.lemmas.List.Sums.{sum_by-cons}
use Rattle.std.proofs.lemmas.List.Sorted.{IsPermutation-cons, IsPermutation-middle, IsPermutation-refl, IsPermutation-sym}
use Rattle.std.proofs.lemmas.List.Sorted.{IsPermutation-trans}
use Rattle.std.proofs.lemmas.List.Sorted.{list_any-IsPermutation, sum_by-IsPermutation}
use Rattle.rx_sorted.specs.Ascending.{has_key, IsAscending, item_at, put, without}
use Rattle.rx_sorted.proofs.Edits.{same_items}
use Rattle.rx_sorted.proofs.FilteredPuts.{filter-put, filter-put_free}
use Rattle.rx_sorted.proofs.Kept.{IsAscending-put}
use Rattle.rx_sorted.proofs.Keys.{cases_Ordering, Equal-from_is_eq, Greater-from_Less, item_at-below}
use Rattle.rx_sorted.proofs.LookUps.{item_at-put}
use Rattle.rx_explain.specs.Names.{in_order}

-- ---- lists with other names

module _ {X Y : Type 0} (name : X → Y) where
  pub filter-map : (p : Y → Bool) (q : X → Bool) → ((x : X) → p (name x) ≡ q x) → (xs : List X)
      → filter p (map name xs) ≡ map name (filter q xs)
  filter-map p q same [] = refl
  filter-map p q same (x ∷ xs) = elim (cases_Bool (q x)) [
    | inl kept ↦ rw (same x, kept) (ap (λ ys. name x ∷ ys) (filter-map p q same xs))
    | inr left ↦ rw (same x, left) (filter-map p q same xs)
  ]

  pub find-map : (p : Y → Bool) (q : X → Bool) → ((x : X) → p (name x) ≡ q x) → (xs : List X)
      → find p (map name xs) ≡ option_map name (find q xs)
  find-map p q same [] = refl
  find-map p q same (x ∷ xs) = elim (cases_Bool (q x)) [
    | inl here ↦ rw (same x, here) refl
    | inr other ↦ rw (same x, other) (find-map p q same xs)
  ]

  pub any-map : (p : Y → Bool) (q : X → Bool) → ((x : X) → p (name x) ≡ q x) → (xs : List X)
      → list_any p (map name xs) ≡ list_any q xs
  any-map p q same [] = refl
  any-map p q same (x ∷ xs) = elim (cases_Bool (q x)) [
    | inl here ↦ rw (same x, here) refl
    | inr other ↦ rw (same x, other) (any-map p q same xs)
  ]

  pub sum-map : (f : Y → ℕ) (g : X → ℕ) → ((x : X) → f (name x) ≡ g x) → (xs : List X)
      → sum_by f (map name xs) ≡ sum_by g xs
  sum-map f g same [] = refl
  sum-map f g same (x ∷ xs) =
      sum_by-cons f (name x) (map name xs) ∙ ap (λ n. n + sum_by f (map name xs)) (same x)
      ∙ ap (λ n. g x + n) (sum-map f g same xs) ∙ sym (sum_by-cons g x xs)

module _ {X K : Type 0} (cmp : K → K → Ordering) (order : IsTotalOrder cmp) (key : X → K) where
  -- ---- in order

  pub rises : (xs : List X) → IsAscending cmp key (in_order cmp key xs)
  rises [] = tt
  rises (x ∷ xs) = IsAscending-put cmp order key (in_order cmp key xs) x (rises xs)

  pub found : (xs : List X) (k : K) → item_at cmp key (in_order cmp key xs) k ≡ item_at cmp key xs k
  found [] k = refl
  found (x ∷ xs) k =
      item_at-put cmp order key (in_order cmp key xs) x k
      ∙ ap (λ r. cond (has_key cmp key k x) (Some x) r) (found xs k)

  -- no two items have one key
  abbrev pub AreApart : List X → Type 0
  AreApart [] = Unit {0}
  AreApart (x ∷ xs) = (item_at cmp key xs (key x) ≡ None) × AreApart xs

  put-moves : (xs : List X) (x : X) → item_at cmp key xs (key x) ≡ None → IsPermutation (x ∷ xs) (put cmp key xs x)
  put-moves [] x free = IsPermutation-refl (x ∷ [])
  put-moves (y ∷ ys) x free = elim (cases_Ordering (cmp (key y) (key x))) [
    | inl less ↦
        let rest : IsPermutation (x ∷ ys) (put cmp key ys x) = put-moves ys x (rw less at free) in
        rw less (IsPermutation-trans (x ∷ y ∷ ys) (y ∷ x ∷ ys) (y ∷ put cmp key ys x)
        (IsPermutation-sym (y ∷ x ∷ ys) (x ∷ y ∷ ys) (IsPermutation-middle (y ∷ []) x ys))
        (IsPermutation-cons y (x ∷ ys) (put cmp key ys x) rest))
    | inr (inl tied) ↦ absurd (let e = rw tied at free in cc)
    | inr (inr more) ↦ rw more (IsPermutation-refl (x ∷ y ∷ ys))
  ]

  pub moved : (xs : List X) → AreApart xs → IsPermutation xs (in_order cmp key xs)
  moved [] apart = IsPermutation-refl []
  moved (x ∷ xs) apart =
      IsPermutation-trans (x ∷ xs) (x ∷ in_order cmp key xs) (put cmp key (in_order cmp key xs) x)
      (IsPermutation-cons x xs (in_order cmp key xs) (moved xs apart.1))
      (put-moves (in_order cmp key xs) x (found xs (key x) ∙ apart.0))

  pub filtered : (p : X → Bool) (xs : List X) → AreApart xs → filter p (in_order cmp key xs) ≡ in_order cmp key (filter p xs)
  filtered p [] apart = refl
  filtered p (x ∷ xs) apart = elim (cases_Bool (p x)) [
    | inl kept ↦
        rw kept (filter-put cmp order key p (in_order cmp key xs) x kept (rises xs)
        ∙ ap (λ ys. put cmp key ys x) (filtered p xs apart.1))
    | inr left ↦
        rw left (filter-put_free cmp order key p (in_order cmp key xs) x left (found xs (key x) ∙ apart.0)
        ∙ filtered p xs apart.1)
  ]

  -- ---- with other names

  module _ (name : X → X) (of : K → K) (key_is : (x : X) → key (name x) ≡ of (key x))
      (same : (j k : K) → is_eq (cmp (of j) (of k)) ≡ is_eq (cmp j k)) where
    abbrev pub named : List X → List X
    named xs = in_order cmp key (map name xs)

    has-named : (k : K) (x : X) → has_key cmp key (of k) (name x) ≡ has_key cmp key k x
    has-named k x = ap (λ j. is_eq (cmp j (of k))) (key_is x) ∙ same (key x) k

    found-map : (xs : List X) (k : K) → item_at cmp key (map name xs) (of k) ≡ option_map name (item_at cmp key xs k)
    found-map xs k = find-map name (has_key cmp key (of k)) (has_key cmp key k) (has-named k) xs

    pub found-named : (xs : List X) (k : K) → item_at cmp key (named xs) (of k) ≡ option_map name (item_at cmp key xs k)
    found-named xs k = found (map name xs) (of k) ∙ found-map xs k

    pub apart : (xs : List X) → IsAscending cmp key xs → AreApart (map name xs)
    apart [] up = tt
    apart (x ∷ xs) up = (
      ap (item_at cmp key (map name xs)) (key_is x) ∙ found-map xs (key x)
          ∙ ap (option_map name) (item_at-below cmp order key (key x) xs up.0),
      apart xs up.1,
    )

    pub moved-named : (xs : List X) → IsAscending cmp key xs → IsPermutation (map name xs) (named xs)
    moved-named xs up = moved (map name xs) (apart xs up)

    pub filter-named : (p q : X → Bool) → ((x : X) → p (name x) ≡ q x) → (xs : List X) → IsAscending cmp key xs
        → filter p (named xs) ≡ named (filter q xs)
    filter-named p q alike xs up =
        filtered p (map name xs) (apart xs up) ∙ ap (in_order cmp key) (filter-map name p q alike xs)

    pub without-named : (xs : List X) (k : K) → IsAscending cmp key xs
        → without cmp key (named xs) (of k) ≡ named (without cmp key xs k)
    without-named xs k up =
        filter-named (λ x. not (has_key cmp key (of k) x)) (λ x. not (has_key cmp key k x)) (λ x. ap not (has-named k x)) xs up

    pub any-named : (p q : X → Bool) → ((x : X) → p (name x) ≡ q x) → (xs : List X) → IsAscending cmp key xs
        → list_any p (named xs) ≡ list_any q xs
    any-named p q alike xs up =
        sym (list_any-IsPermutation p (map name xs) (named xs) (moved-named xs up)) ∙ any-map name p q alike xs

    pub sum-named : (f g : X → ℕ) → ((x : X) → f (name x) ≡ g x) → (xs : List X) → IsAscending cmp key xs
        → sum_by f (named xs) ≡ sum_by g xs
    sum-named f g alike xs up =
        sum_by-IsPermutation f (map name xs) (named xs) (moved-named xs up) ∙ sum-map name f g alike xs

    put-found : (xs : List X) (x : X) (k : K) → item_at cmp key xs (key x) ≡ None
        → item_at cmp key (map name (put cmp key xs x)) k
        ≡ cond (has_key cmp key k (name x)) (Some (name x)) (item_at cmp key (map name xs) k)
    put-found [] x k free = refl
    put-found (y ∷ ys) x k free = elim (cases_Ordering (cmp (key y) (key x))) [
      | inl less ↦
          let rest = put-found ys x k (rw less at free) in
          elim (cases_Bool (has_key cmp key k (name y))) [
            | inl here ↦
                let other : has_key cmp key k (name x) ≡ false =
                ap is_eq (sym (alike_right order (key (name y)) k (key (name x)) (Equal-from_is_eq _ here)))
                ∙ ap (λ j. is_eq (cmp j (key (name y)))) (key_is x) ∙ ap (λ j. is_eq (cmp (of (key x)) j)) (key_is y)
                ∙ same (key x) (key y) ∙ ap is_eq (Greater-from_Less cmp order key (key y) (key x) less) in
                rw (less, here, other) refl
            | inr other ↦ rw (less, other) rest
          ]
      | inr (inl tied) ↦ absurd (let e = rw tied at free in cc)
      | inr (inr more) ↦ rw more refl
    ]

    pub put-named : (xs : List X) (x : X) → item_at cmp key xs (key x) ≡ None
        → named (put cmp key xs x) ≡ put cmp key (named xs) (name x)
    put-named xs x free =
        same_items cmp order key (named (put cmp key xs x)) (put cmp key (named xs) (name x))
        (rises (map name (put cmp key xs x))) (IsAscending-put cmp order key (named xs) (name x) (rises (map name xs)))
        (λ k. found (map name (put cmp key xs x)) k ∙ put-found xs x k free
        ∙ ap (λ r. cond (has_key cmp key k (name x)) (Some (name x)) r) (sym (found (map name xs) k))
        ∙ sym (item_at-put cmp order key (named xs) (name x) k))
