-- Ascending lists are told apart by their look-ups, so changes can be undone, repeated and exchanged.
use Rattle.std.proofs.Common.{◌≡◌, List, [], ◌∷◌, ◌++◌, true, false, Option, Some, None, refl, sym, ap, ◌∙◌, inl, inr}
use Rattle.std.specs.Option.{option_or}
use Rattle.std.specs.List.{Contains}
use Rattle.std.specs.Cmp.{IsTotalOrder}
use Rattle.std.specs.Ordering.{is_eq}
use Rattle.std.specs.declared.cmp.Ordering.{Ordering}
use Rattle.std.specs.declared.cmp.Ordering.TheVariants.{Less, Equal}
use Rattle.std.proofs.lemmas.Bool.{cases_Bool, and_parts}
use Rattle.std.proofs.lemmas.Cmp.{alike_right}
use Rattle.std.proofs.lemmas.List.Sums.{fold-append}
use Rattle.rx_sorted.specs.Ascending.{has_key, IsAscending, item_at, is_past, put, put_all, without}
use Rattle.rx_sorted.proofs.Keys.{cases_Ordering, Equal-from_is_eq, Less-from_is_lt, Less-from_Greater, has_key-itself}
use Rattle.rx_sorted.proofs.Keys.{is_eq-turned, IsBelow-through, item_at-below}
use Rattle.rx_sorted.proofs.Kept.{IsAscending-put, IsAscending-put_all, IsAscending-without}
use Rattle.rx_sorted.proofs.LookUps.{item_at-tied, item_at-put, item_at-put_other, item_at-put_all, item_at-without}
use Rattle.rx_sorted.proofs.LookUps.{item_at-without_other, item_at-found, item_at-from_contains}

module _ {X K : Type 0} (cmp : K → K → Ordering) (order : IsTotalOrder cmp) (key : X → K) where
  -- the first item is found by its key
  item_at-first : (x : X) (xs : List X) → item_at cmp key (x ∷ xs) (key x) ≡ Some x
  item_at-first x xs = rw (has_key-itself cmp order key x)

  -- ascending lists with the same look-ups are one
  pub same_items : (xs ys : List X) → IsAscending cmp key xs → IsAscending cmp key ys
      → ((k : K) → item_at cmp key xs k ≡ item_at cmp key ys k) → xs ≡ ys
  same_items [] [] a b h = refl
  same_items [] (y ∷ ys) a b h = absurd (let e : None ≡ Some y = h (key y) ∙ item_at-first y ys in cc)
  same_items (x ∷ xs) [] a b h = absurd (let e : None ≡ Some x = sym (h (key x)) ∙ item_at-first x xs in cc)
  same_items (x ∷ xs) (y ∷ ys) a b h = elim (cases_Ordering (cmp (key x) (key y))) [
    | inl less ↦
        let below = item_at-below cmp order key (key x) (y ∷ ys)
        (less, IsBelow-through cmp order key (key x) (key y) ys less b.0) in
        absurd (let e : None ≡ Some x = sym below ∙ sym (h (key x)) ∙ item_at-first x xs in cc)
    | inr (inl tied) ↦
        let first : Some x ≡ Some y = sym (item_at-first x xs) ∙ h (key x)
        ∙ item_at-tied cmp order key (y ∷ ys) (key x) (key y) tied ∙ item_at-first y ys in
        let same : x ≡ y = cc in
        let rest : xs ≡ ys = same_items xs ys a.1 b.1 (λ k. elim (cases_Bool (has_key cmp key k x)) [
          | inl here ↦
              let at_x : cmp (key x) k ≡ Equal = Equal-from_is_eq _ here in
              let at_y : cmp (key y) k ≡ Equal = rw same at at_x in
              sym (item_at-tied cmp order key xs (key x) k at_x) ∙ item_at-below cmp order key (key x) xs a.0
              ∙ sym (item_at-below cmp order key (key y) ys b.0) ∙ item_at-tied cmp order key ys (key y) k at_y
          | inr other ↦
              let too : has_key cmp key k y ≡ false = rw same at other in
              let both = h k in
              rw (other, too) at both
        ]) in
        cc
    | inr (inr more) ↦
        let less : cmp (key y) (key x) ≡ Less = Less-from_Greater cmp order key (key x) (key y) more in
        let below = item_at-below cmp order key (key y) (x ∷ xs)
        (less, IsBelow-through cmp order key (key y) (key x) xs less a.0) in
        absurd (let e : None ≡ Some y = sym below ∙ h (key y) ∙ item_at-first y ys in cc)
  ]

  -- ascending lists with the same items are one
  pub same_members : (xs ys : List X) → IsAscending cmp key xs → IsAscending cmp key ys
      → ((x : X) → Contains xs x → Contains ys x) → ((x : X) → Contains ys x → Contains xs x) → xs ≡ ys
  same_members xs ys a b to from = same_items xs ys a b
      (λ k. both k (item_at cmp key xs k) (item_at cmp key ys k) refl refl)
    where
      through : (us vs : List X) → IsAscending cmp key vs → ((x : X) → Contains us x → Contains vs x)
          → (k : K) (x : X) → item_at cmp key us k ≡ Some x → item_at cmp key vs k ≡ Some x
      through us vs c into k x h =
          let found = item_at-found cmp order key us k x h in
          sym (item_at-tied cmp order key vs (key x) k found.1)
          ∙ item_at-from_contains cmp order key vs x c (into x found.0)

      both : (k : K) (o p : Option X) → item_at cmp key xs k ≡ o → item_at cmp key ys k ≡ p
          → item_at cmp key xs k ≡ item_at cmp key ys k
      both k (Some x) p h m = h ∙ sym (through xs ys b to k x h)
      both k None (Some y) h m = through ys xs a from k y m ∙ sym m
      both k None None h m = h ∙ sym m

  -- two items of one list with one key are one
  pub same_item : (xs : List X) (x y : X) → IsAscending cmp key xs → Contains xs x → Contains xs y
      → cmp (key x) (key y) ≡ Equal → x ≡ y
  same_item xs x y a one two tied =
      let at_x = item_at-from_contains cmp order key xs x a one in
      let at_y = item_at-from_contains cmp order key xs y a two in
      let e : Some x ≡ Some y = sym at_x ∙ item_at-tied cmp order key xs (key x) (key y) tied ∙ at_y in
      cc

  -- ---- what is put and taken out again

  -- an item that is taken out and put back
  pub put-back : (xs : List X) (k : K) (x : X) → IsAscending cmp key xs → item_at cmp key xs k ≡ Some x
      → put cmp key (without cmp key xs k) x ≡ xs
  put-back xs k x a h =
      let tied : cmp (key x) k ≡ Equal = let found = item_at-found cmp order key xs k x h in found.1 in
      same_items (put cmp key (without cmp key xs k) x) xs
      (IsAscending-put cmp order key _ _ (IsAscending-without cmp order key _ _ a)) a (λ j.
      item_at-put cmp order key (without cmp key xs k) x j ∙ elim (cases_Bool (has_key cmp key j x)) [
        | inl here ↦ rw here (sym h ∙ item_at-tied cmp order key xs k j
            (sym (order.congr (key x) k j tied) ∙ Equal-from_is_eq _ here))
        | inr other ↦ rw other (item_at-without_other cmp order key xs k j
            (ap is_eq (sym (order.congr (key x) k j tied)) ∙ other))
      ])

  -- a new item that is put and taken out
  pub without-put_free : (xs : List X) (x : X) → IsAscending cmp key xs → item_at cmp key xs (key x) ≡ None
      → without cmp key (put cmp key xs x) (key x) ≡ xs
  without-put_free xs x a free = same_items _ _
      (IsAscending-without cmp order key _ _ (IsAscending-put cmp order key _ _ a)) a (λ j.
      item_at-without cmp order key (put cmp key xs x) (key x) j ∙ elim (cases_Bool (has_key cmp key j x)) [
        | inl here ↦ rw here (sym free ∙ item_at-tied cmp order key xs (key x) j (Equal-from_is_eq _ here))
        | inr other ↦ rw other (item_at-put_other cmp order key xs x j other)
      ])

  -- an item that is there already
  pub put_there : (xs : List X) (x : X) → IsAscending cmp key xs → item_at cmp key xs (key x) ≡ Some x
      → put cmp key xs x ≡ xs
  put_there xs x a h = same_items _ _ (IsAscending-put cmp order key _ _ a) a (λ j.
      item_at-put cmp order key xs x j ∙ elim (cases_Bool (has_key cmp key j x)) [
        | inl here ↦ rw here (sym h ∙ item_at-tied cmp order key xs (key x) j (Equal-from_is_eq _ here))
        | inr other ↦ rw other
      ])

  -- a key that no item has
  pub without_absent : (xs : List X) (k : K) → item_at cmp key xs k ≡ None → without cmp key xs k ≡ xs
  without_absent [] k h = refl
  without_absent (x ∷ xs) k h = elim (cases_Bool (has_key cmp key k x)) [
    | inl here ↦ absurd (let e = rw here at h in cc)
    | inr other ↦ rw other (ap (λ ys. x ∷ ys) (without_absent xs k (rw other at h)))
  ]

  -- what stood under the key of an item that is put does not matter
  pub put-without : (xs : List X) (x : X) → IsAscending cmp key xs
      → put cmp key (without cmp key xs (key x)) x ≡ put cmp key xs x
  put-without xs x a = same_items _ _ (IsAscending-put cmp order key _ _ (IsAscending-without cmp order key _ _ a))
      (IsAscending-put cmp order key _ _ a) (λ j.
      item_at-put cmp order key (without cmp key xs (key x)) x j ∙ elim (cases_Bool (has_key cmp key j x)) [
        | inl here ↦ rw here (sym (item_at-put cmp order key xs x j ∙ rw here))
        | inr other ↦ rw other (item_at-without_other cmp order key xs (key x) j other
            ∙ sym (item_at-put_other cmp order key xs x j other))
      ])

  -- an item that is put makes no difference to a list without its key
  pub without-put : (xs : List X) (x : X) (k : K) → IsAscending cmp key xs → has_key cmp key k x ≡ true
      → without cmp key (put cmp key xs x) k ≡ without cmp key xs k
  without-put xs x k a here = same_items _ _
      (IsAscending-without cmp order key _ _ (IsAscending-put cmp order key _ _ a))
      (IsAscending-without cmp order key _ _ a) (λ j.
      item_at-without cmp order key (put cmp key xs x) k j ∙ elim (cases_Bool (is_eq (cmp k j))) [
        | inl t ↦ rw t (sym (item_at-without cmp order key xs k j ∙ rw t))
        | inr f ↦ rw f (item_at-put_other cmp order key xs x j
            (ap is_eq (order.congr (key x) k j (Equal-from_is_eq _ here)) ∙ f)
            ∙ sym (item_at-without_other cmp order key xs k j f))
      ])

  -- ---- changes at two keys, in either order

  -- a key that is not the new item's may be taken out before or after
  pub without-put_other : (xs : List X) (x : X) (k : K) → IsAscending cmp key xs → has_key cmp key k x ≡ false
      → without cmp key (put cmp key xs x) k ≡ put cmp key (without cmp key xs k) x
  without-put_other xs x k a other = same_items _ _
      (IsAscending-without cmp order key _ _ (IsAscending-put cmp order key _ _ a))
      (IsAscending-put cmp order key _ _ (IsAscending-without cmp order key _ _ a)) (λ j.
      item_at-without cmp order key (put cmp key xs x) k j
      ∙ rw (item_at-put cmp order key xs x j) (elim (cases_Bool (has_key cmp key j x)) [
        | inl here ↦
            let no_tie : is_eq (cmp j k) ≡ false =
            ap is_eq (sym (order.congr (key x) j k (Equal-from_is_eq _ here))) ∙ other in
            let apart : is_eq (cmp k j) ≡ false = is_eq-turned (cmp j k) (cmp k j) (order.antisymm k j) no_tie in
            rw (here, apart) (sym (item_at-put cmp order key (without cmp key xs k) x j ∙ rw here))
        | inr f ↦ rw f (sym (item_at-without cmp order key xs k j)
            ∙ sym (item_at-put_other cmp order key (without cmp key xs k) x j f))
      ]))

  -- the later of two items with one key stays
  pub put-put_same : (xs : List X) (x y : X) → IsAscending cmp key xs → cmp (key x) (key y) ≡ Equal
      → put cmp key (put cmp key xs x) y ≡ put cmp key xs y
  put-put_same xs x y a tied = same_items _ _
      (IsAscending-put cmp order key _ _ (IsAscending-put cmp order key _ _ a))
      (IsAscending-put cmp order key _ _ a) (λ j.
      item_at-put cmp order key (put cmp key xs x) y j ∙ elim (cases_Bool (has_key cmp key j y)) [
        | inl here ↦ rw here (sym (item_at-put cmp order key xs y j ∙ rw here))
        | inr other ↦ rw other (item_at-put_other cmp order key xs x j
            (ap is_eq (order.congr (key x) (key y) j tied) ∙ other)
            ∙ sym (item_at-put_other cmp order key xs y j other))
      ])

  -- items with two keys may go in either way round
  pub put-put_other : (xs : List X) (x y : X) → IsAscending cmp key xs → is_eq (cmp (key x) (key y)) ≡ false
      → put cmp key (put cmp key xs x) y ≡ put cmp key (put cmp key xs y) x
  put-put_other xs x y a apart = same_items _ _
      (IsAscending-put cmp order key _ _ (IsAscending-put cmp order key _ _ a))
      (IsAscending-put cmp order key _ _ (IsAscending-put cmp order key _ _ a)) (λ j.
      let second = item_at-put cmp order key (put cmp key xs y) x j in
      item_at-put cmp order key (put cmp key xs x) y j
      ∙ rw (item_at-put cmp order key xs x j, second, item_at-put cmp order key xs y j)
      (elim (cases_Bool (has_key cmp key j y)) [
        | inl here ↦
            let alike = alike_right order (key y) j (key x) (Equal-from_is_eq _ here) in
            let too : has_key cmp key j x ≡ false = ap is_eq (sym alike) ∙ apart in
            rw (here, too)
        | inr other ↦ rw other
      ]))

  -- ---- at the end, and many at once

  -- an item past the others goes after them
  pub put-past : (xs : List X) (x : X) → is_past cmp key xs (key x) ≡ true → put cmp key xs x ≡ xs ++ x ∷ []
  put-past [] x h = refl
  put-past (y ∷ ys) x h =
      let parts = and_parts _ _ h in
      let less : cmp (key y) (key x) ≡ Less = Less-from_is_lt _ parts.0 in
      rw less (ap (λ zs. y ∷ zs) (put-past ys x parts.1))

  -- two lots of items, one after the other
  pub put_all-append : (xs ys zs : List X) → put_all cmp key xs (ys ++ zs) ≡ put_all cmp key (put_all cmp key xs ys) zs
  put_all-append xs ys zs = fold-append (put cmp key) xs ys zs

  -- an ascending list is what its own items make, put one after another
  pub put_all-nil : (ys : List X) → IsAscending cmp key ys → put_all cmp key [] ys ≡ ys
  put_all-nil ys a = same_items _ _ (IsAscending-put_all cmp order key [] ys tt) a (λ j.
      item_at-put_all cmp order key [] ys j a ∙ or_none (item_at cmp key ys j))
    where
      or_none : (o : Option X) → option_or o None ≡ o
      or_none None = refl
      or_none (Some x) = refl

  -- the last of the items may go in by itself
  pub put_all-put : (xs ys : List X) (x : X) → IsAscending cmp key xs → IsAscending cmp key ys
      → put_all cmp key xs (put cmp key ys x) ≡ put cmp key (put_all cmp key xs ys) x
  put_all-put xs ys x a b = same_items _ _ (IsAscending-put_all cmp order key xs (put cmp key ys x) a)
      (IsAscending-put cmp order key (put_all cmp key xs ys) x (IsAscending-put_all cmp order key xs ys a)) (λ j.
      let second = item_at-put cmp order key (put_all cmp key xs ys) x j in
      item_at-put_all cmp order key xs (put cmp key ys x) j (IsAscending-put cmp order key ys x b)
      ∙ rw (item_at-put cmp order key ys x j, second, item_at-put_all cmp order key xs ys j b)
      (elim (cases_Bool (has_key cmp key j x)) [
        | inl here ↦ rw here
        | inr other ↦ rw other
      ]))

  -- lists that agree where both have a key may be put together either way
  pub put_all-agree : (xs ys : List X) → IsAscending cmp key xs → IsAscending cmp key ys
      → ((k : K) (x y : X) → item_at cmp key xs k ≡ Some x → item_at cmp key ys k ≡ Some y → x ≡ y)
      → put_all cmp key xs ys ≡ put_all cmp key ys xs
  put_all-agree xs ys a b agree = same_items _ _ (IsAscending-put_all cmp order key xs ys a)
      (IsAscending-put_all cmp order key ys xs b) (λ j.
      item_at-put_all cmp order key xs ys j b ∙ either (item_at cmp key xs j) (item_at cmp key ys j) (agree j)
      ∙ sym (item_at-put_all cmp order key ys xs j a))
    where
      either : (o p : Option X) → ((x y : X) → o ≡ Some x → p ≡ Some y → x ≡ y) → option_or p o ≡ option_or o p
      either None None h = refl
      either None (Some y) h = refl
      either (Some x) None h = refl
      either (Some x) (Some y) h = ap Some (sym (h x y refl refl))
