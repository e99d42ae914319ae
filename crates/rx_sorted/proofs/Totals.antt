-- Totals, lengths and facts on each item, after a put and after a taking out.
use Rattle.std.proofs.Common.{◌≡◌, ℕ, ◌+◌, List, [], ◌∷◌, length, false, not, Some, None, refl, sym, ap, ◌∙◌, inl}
use Rattle.std.proofs.Common.{inr, arith}
use Rattle.std.specs.Prelude.{◌⊎◌}
use Rattle.std.specs.List.{All, Any, Contains, sum_by}
use Rattle.std.specs.Cmp.{IsTotalOrder}
use Rattle.std.specs.Ordering.{is_eq}
use Rattle.std.specs.declared.cmp.Ordering.{Ordering}
use Rattle.std.specs.declared.cmp.Ordering.TheVariants.{Less}
use Rattle.std.proofs.lemmas.Bool.{cases_Bool}
use Rattle.std.proofs.lemmas.List.Elements.{All-cons, All-contains, All-contains_itself, All-filter, All-head}
use Rattle.std.proofs.lemmas.List.Elements.{All-nil, All-tail}
use Rattle.std.proofs.lemmas.List.Sums.{sum_by-cons}
use Rattle.rx_sorted.specs.Ascending.{has_key, IsAscending, IsBelow, item_at, put, put_all, without}
use Rattle.rx_sorted.proofs.Keys.{cases_Ordering, Equal-from_is_eq, Less-from_Greater, IsBelow-through, item_at-below}
use Rattle.rx_sorted.proofs.Edits.{without_absent}
use Rattle.rx_sorted.proofs.LookUps.{item_at-tied, item_at-put_same, item_at-put_other, item_at-found}
use Rattle.rx_sorted.proofs.LookUps.{item_at-from_contains}

module _ {X K : Type 0} (cmp : K → K → Ordering) (order : IsTotalOrder cmp) (key : X → K) where
  -- ---- totals

  -- a new item adds its share
  pub sum_by-put_free : (f : X → ℕ) (xs : List X) (x : X) → item_at cmp key xs (key x) ≡ None
      → sum_by f (put cmp key xs x) ≡ sum_by f xs + f x
  sum_by-put_free f [] x free = refl
  sum_by-put_free f (y ∷ ys) x free = elim (cases_Ordering (cmp (key y) (key x))) [
    | inl less ↦
        let rest = sum_by-put_free f ys x (rw less at free) in
        rw less (omega (arith, sum_by-cons f y (put cmp key ys x), sum_by-cons f y ys, rest))
    | inr (inl tied) ↦ absurd (let e = rw tied at free in cc)
    | inr (inr more) ↦ rw more (omega (arith, sum_by-cons f x (y ∷ ys)))
  ]

  -- an item that replaces another adds its share and takes the other's away
  pub sum_by-put_over : (f : X → ℕ) (xs : List X) (x y : X) → IsAscending cmp key xs
      → item_at cmp key xs (key x) ≡ Some y → sum_by f (put cmp key xs x) + f y ≡ sum_by f xs + f x
  sum_by-put_over f [] x y a h = cc
  sum_by-put_over f (z ∷ zs) x y a h = elim (cases_Ordering (cmp (key z) (key x))) [
    | inl less ↦
        let rest = sum_by-put_over f zs x y a.1 (rw less at h) in
        rw less (omega (arith, sum_by-cons f z (put cmp key zs x), sum_by-cons f z zs, rest))
    | inr (inl tied) ↦
        let same : z ≡ y = let e = rw tied at h in cc in
        rw tied (omega (arith, sum_by-cons f x zs, sum_by-cons f z zs, ap f same))
    | inr (inr more) ↦
        let less : cmp (key x) (key z) ≡ Less = Less-from_Greater cmp order key (key z) (key x) more in
        let below : IsBelow cmp key (key x) (z ∷ zs) =
        (less, IsBelow-through cmp order key (key x) (key z) zs less a.0) in
        absurd (let e : None ≡ Some y = sym (item_at-below cmp order key (key x) (z ∷ zs) below) ∙ h in cc)
  ]

  -- an item that is taken out takes its share away
  pub sum_by-without : (f : X → ℕ) (xs : List X) (k : K) (x : X) → IsAscending cmp key xs
      → item_at cmp key xs k ≡ Some x → sum_by f (without cmp key xs k) + f x ≡ sum_by f xs
  sum_by-without f [] k x a h = cc
  sum_by-without f (y ∷ ys) k x a h = elim (cases_Bool (has_key cmp key k y)) [
    | inl here ↦
        let same : y ≡ x = let e = rw here at h in cc in
        let none : item_at cmp key ys k ≡ None =
        sym (item_at-tied cmp order key ys (key y) k (Equal-from_is_eq _ here))
        ∙ item_at-below cmp order key (key y) ys a.0 in
        let rest : without cmp key ys k ≡ ys = without_absent cmp order key ys k none in
        rw (here, rest) (omega (arith, sum_by-cons f y ys, ap f same))
    | inr other ↦
        let rest = sum_by-without f ys k x a.1 (rw other at h) in
        rw other (omega (arith, sum_by-cons f y (without cmp key ys k), sum_by-cons f y ys, rest))
  ]

  -- ---- lengths

  length_as_sum : (xs : List X) → sum_by (λ _. 1) xs ≡ length xs
  length_as_sum [] = refl
  length_as_sum (x ∷ xs) = omega (arith, sum_by-cons (λ _. 1) x xs, length_as_sum xs)

  pub length-put_free : (xs : List X) (x : X) → item_at cmp key xs (key x) ≡ None
      → length (put cmp key xs x) ≡ length xs + 1
  length-put_free xs x free = sym (length_as_sum (put cmp key xs x)) ∙ sum_by-put_free (λ _. 1) xs x free
      ∙ ap (λ n. n + 1) (length_as_sum xs)

  pub length-put_over : (xs : List X) (x y : X) → IsAscending cmp key xs → item_at cmp key xs (key x) ≡ Some y
      → length (put cmp key xs x) ≡ length xs
  length-put_over xs x y a h =
      let sums = sum_by-put_over (λ _. 1) xs x y a h in
      omega (arith, length_as_sum (put cmp key xs x), length_as_sum xs, sums)

  pub length-without : (xs : List X) (k : K) (x : X) → IsAscending cmp key xs → item_at cmp key xs k ≡ Some x
      → length (without cmp key xs k) + 1 ≡ length xs
  length-without xs k x a h =
      let sums = sum_by-without (λ _. 1) xs k x a h in
      omega (arith, length_as_sum (without cmp key xs k), length_as_sum xs, sums)

  -- ---- facts on each item

  pub All-put : (P : X → Type 0) (xs : List X) (x : X) → All P xs → P x → All P (put cmp key xs x)
  All-put P [] x all one = All-cons P x [] one (All-nil P)
  All-put P (y ∷ ys) x all one =
      let rest : All P ys = All-tail P y ys all in
      elim (cases_Ordering (cmp (key y) (key x))) [
        | inl less ↦ rw less (All-cons P y (put cmp key ys x) (All-head P y ys all) (All-put P ys x rest one))
        | inr (inl tied) ↦ rw tied (All-cons P x ys one rest)
        | inr (inr more) ↦ rw more (All-cons P x (y ∷ ys) one all)
      ]

  pub All-put_all : (P : X → Type 0) (xs ys : List X) → All P xs → All P ys → All P (put_all cmp key xs ys)
  All-put_all P xs [] all more = all
  All-put_all P xs (y ∷ ys) all more = All-put_all P (put cmp key xs y) ys
      (All-put P xs y all (All-head P y ys more)) (All-tail P y ys more)

  pub All-without : (P : X → Type 0) (xs : List X) (k : K) → All P xs → All P (without cmp key xs k)
  All-without P xs k all = All-filter (λ x. not (has_key cmp key k x)) P xs all

  -- ---- the items themselves

  pub Contains-put : (xs : List X) (x : X) → Contains (put cmp key xs x) x
  Contains-put xs x =
      let found = item_at-found cmp order key (put cmp key xs x) (key x) x (item_at-put_same cmp order key xs x) in
      found.0

  -- an item with another key stays
  pub Contains-put_other : (xs : List X) (x y : X) → IsAscending cmp key xs → Contains xs y
      → is_eq (cmp (key x) (key y)) ≡ false → Contains (put cmp key xs x) y
  Contains-put_other xs x y a among other =
      let stays = item_at-put_other cmp order key xs x (key y) other in
      let there = item_at-from_contains cmp order key xs y a among in
      let found = item_at-found cmp order key (put cmp key xs x) (key y) y (stays ∙ there) in
      found.0

  pub Contains-put_cases : (xs : List X) (x y : X) → Contains (put cmp key xs x) y → (x ≡ y) ⊎ Contains xs y
  Contains-put_cases xs x y among =
      let P : X → Type 0 = λ z. (x ≡ z) ⊎ Contains xs z in
      All-contains P (put cmp key xs x) y (All-put P xs x (λ i d h. inr (All-contains_itself xs i d h)) (inl refl))
      among

  pub Contains-without : (xs : List X) (k : K) (x : X) → Contains (without cmp key xs k) x → Contains xs x
  Contains-without xs k x among = All-contains (Contains xs) (without cmp key xs k) x
      (All-without (Contains xs) xs k (All-contains_itself xs)) among

  -- a fact on some item holds on after a put that makes it so
  pub Any-put : (P : X → Type 0) (xs : List X) (x : X) → P x → Any P (put cmp key xs x)
  Any-put P xs x one = let among = Contains-put xs x in (among.0, x, among.1, among.2, one)
