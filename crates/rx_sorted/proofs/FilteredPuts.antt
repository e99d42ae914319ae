-- What a filter of an ascending list is after a put and after a taking out.
use Rattle.std.proofs.Common.{◌≡◌, List, [], ◌∷◌, Bool, true, false, not, cond, Some, None, sym, ap, ◌∙◌, inl, inr}
use Rattle.std.specs.List.{All, filter}
use Rattle.std.specs.Cmp.{IsTotalOrder}
use Rattle.std.specs.Ordering.{is_eq}
use Rattle.std.specs.declared.cmp.Ordering.{Ordering}
use Rattle.std.proofs.lemmas.Bool.{cases_Bool, both_ways}
use Rattle.std.proofs.lemmas.List.Elements.{All-cons, All-head, All-nil, All-tail, All-weaker}
use Rattle.std.proofs.lemmas.Cmp.{tied_back}
use Rattle.rx_sorted.specs.Ascending.{has_key, IsAscending, item_at, put, without}
use Rattle.rx_sorted.proofs.Filters.{filter_swap, filter_within}
use Rattle.rx_sorted.proofs.Keys.{cases_Ordering, Equal-from_is_eq, Less-from_Greater, IsBelow-through, IsBelow-tied}
use Rattle.rx_sorted.proofs.Keys.{IsBelow-filter, item_at-below, put-below}
use Rattle.rx_sorted.proofs.LookUps.{item_at-tied, none_has}

module _ {X K : Type 0} (cmp : K → K → Ordering) (order : IsTotalOrder cmp) (key : X → K) where
  -- ---- a filter after a change

  -- an item that p keeps may go in before or after the filter
  pub filter-put : (p : X → Bool) (xs : List X) (x : X) → p x ≡ true → IsAscending cmp key xs
      → filter p (put cmp key xs x) ≡ put cmp key (filter p xs) x
  filter-put p [] x k a = rw k
  filter-put p (y ∷ ys) x k a =
      let rest : filter p (put cmp key ys x) ≡ put cmp key (filter p ys) x = filter-put p ys x k a.1 in
      elim (cases_Ordering (cmp (key y) (key x))) [
        | inl less ↦ elim (cases_Bool (p y)) [
          | inl m ↦ simp (less, m) (ap (λ zs. y ∷ zs) rest)
          | inr n ↦ simp (less, n) rest
        ]
        | inr (inl tied) ↦ elim (cases_Bool (p y)) [
          | inl m ↦ simp (tied, k, m)
          | inr n ↦ simp (tied, k, n) (sym (put-below cmp order key x (filter p ys)
              (IsBelow-filter cmp order key p (key x) ys
              (IsBelow-tied cmp order key (key x) (key y) ys (tied_back order (key y) (key x) tied) a.0))))
        ]
        | inr (inr more) ↦ elim (cases_Bool (p y)) [
          | inl m ↦ simp (more, k, m)
          | inr n ↦ simp (more, k, n) (sym (put-below cmp order key x (filter p ys)
              (IsBelow-filter cmp order key p (key x) ys
              (IsBelow-through cmp order key (key x) (key y) ys
              (Less-from_Greater cmp order key (key y) (key x) more) a.0))))
        ]
      ]

  -- what p refuses goes in without a trace, where p refuses what it replaces
  pub filter-put_other : (p : X → Bool) (xs : List X) (x : X) → p x ≡ false
      → All (λ y. has_key cmp key (key x) y ≡ true → p y ≡ false) xs → filter p (put cmp key xs x) ≡ filter p xs
  filter-put_other p [] x n h = rw n
  filter-put_other p (y ∷ ys) x n h =
      let P : X → Type 0 = λ z. has_key cmp key (key x) z ≡ true → p z ≡ false in
      elim (cases_Ordering (cmp (key y) (key x))) [
        | inl less ↦ rw less (ap (λ zs. cond (p y) (y ∷ zs) zs) (filter-put_other p ys x n (All-tail P y ys h)))
        | inr (inl tied) ↦ rw (tied, n, All-head P y ys h (ap is_eq tied))
        | inr (inr more) ↦ rw (more, n)
      ]

  pub filter-put_free : (p : X → Bool) (xs : List X) (x : X) → p x ≡ false → item_at cmp key xs (key x) ≡ None
      → filter p (put cmp key xs x) ≡ filter p xs
  filter-put_free p xs x n free = filter-put_other p xs x n
      (All-weaker (λ y. has_key cmp key (key x) y ≡ false) (λ y. has_key cmp key (key x) y ≡ true → p y ≡ false)
      (λ y f t. absurd (both_ways _ f t)) xs (none_has cmp order key xs (key x) free))

  pub filter-without : (p : X → Bool) (xs : List X) (k : K)
      → filter p (without cmp key xs k) ≡ without cmp key (filter p xs) k
  filter-without p xs k = filter_swap p (λ x. not (has_key cmp key k x)) xs

  -- what p refuses goes out without a trace
  pub filter-without_other : (p : X → Bool) (xs : List X) (k : K)
      → All (λ y. has_key cmp key k y ≡ true → p y ≡ false) xs → filter p (without cmp key xs k) ≡ filter p xs
  filter-without_other p xs k h = filter_within p (λ x. not (has_key cmp key k x)) xs
      (All-weaker (λ y. has_key cmp key k y ≡ true → p y ≡ false)
      (λ y. p y ≡ true → not (has_key cmp key k y) ≡ true)
      (λ y f t. elim (cases_Bool (has_key cmp key k y))
      [ inl here ↦ absurd (both_ways _ (f here) t) | inr other ↦ rw other ]) xs h)

  -- of an ascending list: the one item that has the key
  pub refused_at : (p : X → Bool) (xs : List X) (k : K) (x : X) → IsAscending cmp key xs
      → item_at cmp key xs k ≡ Some x → p x ≡ false → All (λ y. has_key cmp key k y ≡ true → p y ≡ false) xs
  refused_at p [] k x a h n = All-nil (λ y. has_key cmp key k y ≡ true → p y ≡ false)
  refused_at p (y ∷ ys) k x a h n =
      let P : X → Type 0 = λ z. has_key cmp key k z ≡ true → p z ≡ false in
      elim (cases_Bool (has_key cmp key k y)) [
        | inl here ↦
            let same : y ≡ x = let e = rw here at h in cc in
            let none : item_at cmp key ys k ≡ None =
            sym (item_at-tied cmp order key ys (key y) k (Equal-from_is_eq _ here))
            ∙ item_at-below cmp order key (key y) ys a.0 in
            All-cons P y ys (λ _. rw same n) (All-weaker (λ z. has_key cmp key k z ≡ false) P
            (λ z f t. absurd (both_ways _ f t)) ys (none_has cmp order key ys k none))
        | inr other ↦ All-cons P y ys (λ t. absurd (both_ways _ other t)) (refused_at p ys k x a.1 (rw other at h) n)
      ]

  pub filter-put_over : (p : X → Bool) (xs : List X) (x y : X) → IsAscending cmp key xs
      → item_at cmp key xs (key x) ≡ Some y → p y ≡ false → p x ≡ false → filter p (put cmp key xs x) ≡ filter p xs
  filter-put_over p xs x y a h m n = filter-put_other p xs x n (refused_at p xs (key x) y a h m)

  pub filter-without_refused : (p : X → Bool) (xs : List X) (k : K) (x : X) → IsAscending cmp key xs
      → item_at cmp key xs k ≡ Some x → p x ≡ false → filter p (without cmp key xs k) ≡ filter p xs
  filter-without_refused p xs k x a h n = filter-without_other p xs k (refused_at p xs k x a h n)
