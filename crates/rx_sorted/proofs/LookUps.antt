-- What is found by a key, after each change of a list.
use Rattle.std.proofs.Common.{◌≡◌, zero, suc, List, [], ◌∷◌, map, Bool, true, false, cond, Option, Some, None, refl}
use Rattle.std.proofs.Common.{sym, ap, ◌∙◌, subst, inl, inr, arith}
use Rattle.std.specs.Prelude.{◌&&◌, ◌||◌, not}
use Rattle.std.specs.Option.{is_some, option_map, option_or, option_and_then}
use Rattle.std.specs.Bool.{then_some}
use Rattle.std.specs.List.{All, Contains, filter}
use Rattle.std.specs.Cmp.{IsTotalOrder}
use Rattle.std.specs.Ordering.{is_eq}
use Rattle.std.specs.declared.cmp.Ordering.{Ordering}
use Rattle.std.specs.declared.cmp.Ordering.TheVariants.{Equal}
use Rattle.std.proofs.lemmas.Bool.{cases_Bool}
use Rattle.std.proofs.lemmas.Cmp.{alike_right, tied_itself}
use Rattle.std.proofs.lemmas.List.Elements.{All-cons, All-head, All-tail, All-nil}
use Rattle.rx_sorted.specs.Ascending.{has_key, IsAscending, contains_key, item_at, put, put_all, without}
use Rattle.rx_sorted.proofs.Keys.{cases_Ordering, Equal-from_is_eq, Greater-from_Less, has_key-itself, has_key-tied}
use Rattle.rx_sorted.proofs.Keys.{has_key-both, is_eq-turned, item_at-below}

module _ {X K : Type 0} (cmp : K → K → Ordering) (order : IsTotalOrder cmp) (key : X → K) where
  -- keys that tie find the same item
  pub item_at-tied : (xs : List X) (j k : K) → cmp j k ≡ Equal → item_at cmp key xs j ≡ item_at cmp key xs k
  item_at-tied [] j k h = refl
  item_at-tied (x ∷ xs) j k h = rw (has_key-tied cmp order key j k x h)
      (ap (λ r. cond (has_key cmp key k x) (Some x) r) (item_at-tied xs j k h))

  -- ---- after a put

  pub item_at-put : (xs : List X) (x : X) (k : K)
      → item_at cmp key (put cmp key xs x) k ≡ cond (has_key cmp key k x) (Some x) (item_at cmp key xs k)
  item_at-put [] x k = refl
  item_at-put (y ∷ ys) x k = elim (cases_Ordering (cmp (key y) (key x))) [
    | inl less ↦ elim (cases_Bool (has_key cmp key k y)) [
      | inl here ↦
          let apart : has_key cmp key k x ≡ false =
          ap is_eq (sym (alike_right order (key y) k (key x) (Equal-from_is_eq _ here))
          ∙ Greater-from_Less cmp order key (key y) (key x) less) in
          rw (less, here, apart)
      | inr other ↦ rw (less, other) (item_at-put ys x k)
    ]
    | inr (inl tied) ↦ elim (cases_Bool (has_key cmp key k x)) [
      | inl here ↦ rw (tied, here)
      | inr other ↦
          let too : has_key cmp key k y ≡ false = ap is_eq (order.congr (key y) (key x) k tied) ∙ other in
          rw (tied, other, too)
    ]
    | inr (inr more) ↦ rw more
  ]

  pub item_at-put_same : (xs : List X) (x : X) → item_at cmp key (put cmp key xs x) (key x) ≡ Some x
  item_at-put_same xs x = item_at-put xs x (key x) ∙ rw (has_key-itself cmp order key x)

  pub item_at-put_other : (xs : List X) (x : X) (k : K) → has_key cmp key k x ≡ false
      → item_at cmp key (put cmp key xs x) k ≡ item_at cmp key xs k
  item_at-put_other xs x k other = item_at-put xs x k ∙ rw other

  pub contains_key-put : (xs : List X) (x : X) (k : K)
      → contains_key cmp key (put cmp key xs x) k ≡ (has_key cmp key k x || contains_key cmp key xs k)
  contains_key-put xs x k = ap is_some (item_at-put xs x k)
      ∙ elim (cases_Bool (has_key cmp key k x)) [ inl here ↦ rw here | inr other ↦ rw other ]

  -- what is put hides what was there
  pub item_at-put_all : (xs ys : List X) (k : K) → IsAscending cmp key ys
      → item_at cmp key (put_all cmp key xs ys) k ≡ option_or (item_at cmp key ys k) (item_at cmp key xs k)
  item_at-put_all xs [] k a = refl
  item_at-put_all xs (y ∷ ys) k a =
      let rest : item_at cmp key (put_all cmp key (put cmp key xs y) ys) k ≡ option_or (item_at cmp key ys k)
      (cond (has_key cmp key k y) (Some y) (item_at cmp key xs k)) =
      item_at-put_all (put cmp key xs y) ys k a.1 ∙ ap (option_or (item_at cmp key ys k)) (item_at-put xs y k) in
      elim (cases_Bool (has_key cmp key k y)) [
        | inl here ↦
            let none : item_at cmp key ys k ≡ None =
            sym (item_at-tied ys (key y) k (Equal-from_is_eq _ here))
            ∙ item_at-below cmp order key (key y) ys a.0 in
            rest ∙ rw (here, none)
        | inr other ↦ rest ∙ rw other
      ]

  -- ---- without a key

  pub item_at-without : (xs : List X) (j k : K)
      → item_at cmp key (without cmp key xs j) k ≡ cond (is_eq (cmp j k)) None (item_at cmp key xs k)
  item_at-without [] j k = elim (cases_Bool (is_eq (cmp j k))) [ inl t ↦ rw t | inr f ↦ rw f ]
  item_at-without (x ∷ xs) j k = elim (cases_Bool (has_key cmp key j x)) [
    | inl gone ↦ elim (cases_Bool (is_eq (cmp j k))) [
      | inl t ↦ rw (gone, t) (item_at-without xs j k ∙ rw t)
      | inr f ↦ rw (gone, f, has_key-both cmp order key j k x gone) (item_at-without xs j k ∙ rw f)
    ]
    | inr stays ↦ elim (cases_Bool (has_key cmp key k x)) [
      | inl here ↦
          let apart : is_eq (cmp j k) ≡ false = ap is_eq
          (sym (alike_right order (key x) k j (Equal-from_is_eq _ here)))
          ∙ is_eq-turned (cmp (key x) j) (cmp j (key x)) (order.antisymm j (key x)) stays in
          rw (stays, here, apart)
      | inr other ↦ rw (stays, other) (item_at-without xs j k)
    ]
  ]

  pub contains_key-without : (xs : List X) (j k : K)
      → contains_key cmp key (without cmp key xs j) k ≡ (not (is_eq (cmp j k)) && contains_key cmp key xs k)
  contains_key-without xs j k = ap is_some (item_at-without xs j k)
      ∙ elim (cases_Bool (is_eq (cmp j k))) [ inl t ↦ rw t | inr f ↦ rw f ]

  pub item_at-without_same : (xs : List X) (k : K) → item_at cmp key (without cmp key xs k) k ≡ None
  item_at-without_same xs k = item_at-without xs k k ∙ rw (tied_itself order k)

  pub item_at-without_other : (xs : List X) (j k : K) → is_eq (cmp j k) ≡ false
      → item_at cmp key (without cmp key xs j) k ≡ item_at cmp key xs k
  item_at-without_other xs j k other = item_at-without xs j k ∙ rw other

  -- ---- of a filter, and of a map

  -- the item, if it passes
  pub item_at-filter : (p : X → Bool) (xs : List X) (k : K) → IsAscending cmp key xs
      → item_at cmp key (filter p xs) k ≡ option_and_then (λ x. then_some (p x) x) (item_at cmp key xs k)
  item_at-filter p [] k a = refl
  item_at-filter p (x ∷ xs) k a =
      let rest : item_at cmp key (filter p xs) k ≡ option_and_then (λ y. then_some (p y) y)
      (item_at cmp key xs k) = item_at-filter p xs k a.1 in
      elim (cases_Bool (p x)) [
        | inl t ↦ elim (cases_Bool (has_key cmp key k x))
            [ inl here ↦ simp (t, here) | inr other ↦ simp (t, other) rest ]
        | inr f ↦ elim (cases_Bool (has_key cmp key k x)) [
          | inl here ↦
              let none : item_at cmp key xs k ≡ None =
              sym (item_at-tied xs (key x) k (Equal-from_is_eq _ here))
              ∙ item_at-below cmp order key (key x) xs a.0 in
              rw (f, here, f) (rest ∙ rw none)
          | inr other ↦ rw (f, other) rest
        ]
      ]

  pub item_at-filter_kept : (p : X → Bool) (xs : List X) (k : K) (x : X) → IsAscending cmp key xs
      → item_at cmp key xs k ≡ Some x → p x ≡ true → item_at cmp key (filter p xs) k ≡ Some x
  item_at-filter_kept p xs k x a h t = item_at-filter p xs k a ∙ rw (h, t)

  pub item_at-filter_refused : (p : X → Bool) (xs : List X) (k : K) (x : X) → IsAscending cmp key xs
      → item_at cmp key xs k ≡ Some x → p x ≡ false → item_at cmp key (filter p xs) k ≡ None
  item_at-filter_refused p xs k x a h f = item_at-filter p xs k a ∙ rw (h, f)

  pub item_at-filter_none : (p : X → Bool) (xs : List X) (k : K) → IsAscending cmp key xs
      → item_at cmp key xs k ≡ None → item_at cmp key (filter p xs) k ≡ None
  item_at-filter_none p xs k a h = item_at-filter p xs k a ∙ rw h

  -- a change that keeps keys
  pub item_at-map : {Y : Type 0} (other : Y → K) (f : X → Y) → ((x : X) → other (f x) ≡ key x)
      → (xs : List X) (k : K) → item_at cmp other (map f xs) k ≡ option_map f (item_at cmp key xs k)
  item_at-map {Y} other f same [] k = refl
  item_at-map {Y} other f same (x ∷ xs) k = elim (cases_Bool (has_key cmp key k x)) [
    | inl here ↦ rw (same x, here)
    | inr apart ↦ rw (same x, apart) (item_at-map other f same xs k)
  ]

  -- ---- an item of the list

  -- what is found is among the items, and has the key
  pub item_at-found : (xs : List X) (k : K) (x : X) → item_at cmp key xs k ≡ Some x
      → Contains xs x × (cmp (key x) k ≡ Equal)
  item_at-found [] k x h = cc
  item_at-found (y ∷ ys) k x h = elim (cases_Bool (has_key cmp key k y)) [
    | inl here ↦
        let same : y ≡ x = let e = rw here at h in cc in
        ((0, omega arith, same), rw same at (Equal-from_is_eq _ here))
    | inr other ↦
        let more = item_at-found ys k x (rw other at h) in
        ((suc more.0.0, omega (arith, more.0.1), more.0.2), more.1)
  ]

  -- an item of an ascending list is found by its key
  pub item_at-from_contains : (xs : List X) (x : X) → IsAscending cmp key xs → Contains xs x
      → item_at cmp key xs (key x) ≡ Some x
  item_at-from_contains [] x a c = absurd (omega (arith, c.1))
  item_at-from_contains (y ∷ ys) x a (zero, in_range, is) = rw (ap key is, has_key-itself cmp order key x) (ap Some is)
  item_at-from_contains (y ∷ ys) x a (suc i, in_range, is) =
      let rest : item_at cmp key ys (key x) ≡ Some x = item_at-from_contains ys x a.1 (i, omega arith, is) in
      elim (cases_Bool (has_key cmp key (key x) y)) [
        | inl here ↦
            let none : item_at cmp key ys (key x) ≡ None =
            sym (item_at-tied ys (key y) (key x) (Equal-from_is_eq _ here))
            ∙ item_at-below cmp order key (key y) ys a.0 in
            absurd (let e : None ≡ Some x = sym none ∙ rest in cc)
        | inr other ↦ rw other rest
      ]

  -- where nothing is found, no item has the key
  pub none_has : (xs : List X) (k : K) → item_at cmp key xs k ≡ None → All (λ x. has_key cmp key k x ≡ false) xs
  none_has [] k h = All-nil _
  none_has (x ∷ xs) k h = elim (cases_Bool (has_key cmp key k x)) [
    | inl here ↦ absurd (let e = rw here at h in cc)
    | inr other ↦ All-cons (λ y. has_key cmp key k y ≡ false) x xs other (none_has xs k (rw other at h))
  ]

  pub item_at-none : (xs : List X) (k : K) → All (λ x. has_key cmp key k x ≡ false) xs → item_at cmp key xs k ≡ None
  item_at-none [] k h = refl
  item_at-none (x ∷ xs) k h = rw (All-head (λ y. has_key cmp key k y ≡ false) x xs h)
      (item_at-none xs k (All-tail (λ y. has_key cmp key k y ≡ false) x xs h))

  -- a key that is free finds nothing
  pub item_at-free : (xs : List X) (k : K) → contains_key cmp key xs k ≡ false → item_at cmp key xs k ≡ None
  item_at-free xs k = no_item (item_at cmp key xs k)
    where
      no_item : (o : Option X) → is_some o ≡ false → o ≡ None
      no_item None h = refl
      no_item (Some x) h = cc

  -- what holds of each item holds of the one that is found
  pub item_at-all : (P : X → Type 0) (xs : List X) (k : K) (x : X) → All P xs → item_at cmp key xs k ≡ Some x → P x
  item_at-all P xs k x all h = let found = item_at-found xs k x h in subst P found.0.2 (all found.0.0 x found.0.1)
