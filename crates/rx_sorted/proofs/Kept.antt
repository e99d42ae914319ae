-- What keeps a list ascending, and what shows that one is.
use Rattle.std.proofs.Common.{◌≡◌, ℕ, zero, suc, ◌+◌, ◌-◌, ◌<◌, List, [], ◌∷◌, ◌++◌, length, get_or, take, drop, map}
use Rattle.std.proofs.Common.{Bool, true, not, false, refl, sym, ap, ◌∙◌, inl, inr, arith}
use Rattle.std.specs.Prelude.{◌&&◌}
use Rattle.std.specs.List.{All, AllAdjacentBelow, IsAllAdjacentAnswer, filter}
use Rattle.std.specs.Cmp.{IsTotalOrder}
use Rattle.std.specs.Ordering.{is_lt, Ordering-set}
use Rattle.std.specs.declared.cmp.Ordering.{Ordering}
use Rattle.std.specs.declared.cmp.Ordering.TheVariants.{Less, Equal}
use Rattle.std.proofs.lemmas.Bool.{cases_Bool, and_parts, and_from, and_left, and_right}
use Rattle.std.proofs.lemmas.Cmp.{tied_back}
use Rattle.std.proofs.lemmas.List.Elements.{All-head, All-tail}
use mathlib.Core.HLevel.{×_prop, Unit-prop}
use Rattle.rx_sorted.specs.Ascending.{has_key, IsBelow, IsAscending, is_ascending, is_past, put, put_all, without}
use Rattle.rx_sorted.proofs.Keys.{cases_Ordering, Less-from_is_lt, Less-from_Greater, IsBelow-through, IsBelow-tied}
use Rattle.rx_sorted.proofs.Keys.{IsBelow-filter, IsBelow-append, IsBelow-put, IsBelow-at, IsBelow-from_places}

module _ {X K : Type 0} (cmp : K → K → Ordering) (order : IsTotalOrder cmp) (key : X → K) where
  -- ---- changes

  pub IsAscending-filter : (p : X → Bool) (xs : List X) → IsAscending cmp key xs → IsAscending cmp key (filter p xs)
  IsAscending-filter p [] a = tt
  IsAscending-filter p (x ∷ xs) a = elim (cases_Bool (p x)) [
    | inl t ↦ rw t (IsBelow-filter cmp order key p (key x) xs a.0, IsAscending-filter p xs a.1)
    | inr f ↦ rw f (IsAscending-filter p xs a.1)
  ]

  pub IsAscending-without : (xs : List X) (k : K) → IsAscending cmp key xs → IsAscending cmp key (without cmp key xs k)
  IsAscending-without xs k a = IsAscending-filter (λ x. not (has_key cmp key k x)) xs a

  pub IsAscending-put : (xs : List X) (x : X) → IsAscending cmp key xs → IsAscending cmp key (put cmp key xs x)
  IsAscending-put [] x a = (tt, tt)
  IsAscending-put (y ∷ ys) x a = elim (cases_Ordering (cmp (key y) (key x))) [
    | inl less ↦ rw less (IsBelow-put cmp order key (key y) ys x less a.0, IsAscending-put ys x a.1)
    | inr (inl tied) ↦
        let back : cmp (key x) (key y) ≡ Equal = tied_back order (key y) (key x) tied in
        rw tied (IsBelow-tied cmp order key (key x) (key y) ys back a.0, a.1)
    | inr (inr more) ↦
        let above : cmp (key x) (key y) ≡ Less = Less-from_Greater cmp order key (key y) (key x) more in
        rw more ((above, IsBelow-through cmp order key (key x) (key y) ys above a.0), (a.0, a.1))
  ]

  pub IsAscending-put_all : (xs ys : List X) → IsAscending cmp key xs → IsAscending cmp key (put_all cmp key xs ys)
  IsAscending-put_all xs [] a = a
  IsAscending-put_all xs (y ∷ ys) a = IsAscending-put_all (put cmp key xs y) ys (IsAscending-put xs y a)

  -- ---- parts, and lists one after another

  pub IsAscending-append : (xs ys : List X) → IsAscending cmp key xs → All (λ x. IsBelow cmp key (key x) ys) xs
      → IsAscending cmp key ys → IsAscending cmp key (xs ++ ys)
  IsAscending-append [] ys a below b = b
  IsAscending-append (x ∷ xs) ys a below b =
      let P : X → Type 0 = λ y. IsBelow cmp key (key y) ys in
      let first = IsBelow-append cmp order key (key x) xs ys a.0 (All-head P x xs below) in
      (first, IsAscending-append xs ys a.1 (All-tail P x xs below) b)

  IsBelow-take : (n : ℕ) (k : K) (xs : List X) → IsBelow cmp key k xs → IsBelow cmp key k (take n xs)
  IsBelow-take zero k xs b = tt
  IsBelow-take (suc n) k [] b = tt
  IsBelow-take (suc n) k (x ∷ xs) b = (b.0, IsBelow-take n k xs b.1)

  pub IsAscending-take : (n : ℕ) (xs : List X) → IsAscending cmp key xs → IsAscending cmp key (take n xs)
  IsAscending-take zero xs a = tt
  IsAscending-take (suc n) [] a = tt
  IsAscending-take (suc n) (x ∷ xs) a = (IsBelow-take n (key x) xs a.0, IsAscending-take n xs a.1)

  pub IsAscending-drop : (n : ℕ) (xs : List X) → IsAscending cmp key xs → IsAscending cmp key (drop n xs)
  IsAscending-drop zero xs a = a
  IsAscending-drop (suc n) [] a = tt
  IsAscending-drop (suc n) (x ∷ xs) a = IsAscending-drop n xs a.1

  -- what is changed without its key
  pub IsAscending-map : {Y : Type 0} (other : Y → K) (f : X → Y) → ((x : X) → other (f x) ≡ key x) → (xs : List X)
      → IsAscending cmp key xs → IsAscending cmp other (map f xs)
  IsAscending-map {Y} other f same [] a = tt
  IsAscending-map {Y} other f same (x ∷ xs) a =
      (rw (same x) (below (key x) xs a.0), IsAscending-map other f same xs a.1)
    where
      below : (k : K) (ys : List X) → IsBelow cmp key k ys → IsBelow cmp other k (map f ys)
      below k [] b = tt
      below k (y ∷ ys) b = (rw (same y) b.0, below k ys b.1)

  -- ---- at the end

  pub is_past-append : (xs ys : List X) (k : K)
      → is_past cmp key (xs ++ ys) k ≡ (is_past cmp key xs k && is_past cmp key ys k)
  is_past-append [] ys k = refl
  is_past-append (x ∷ xs) ys k = elim (cases_Bool (is_lt (cmp (key x) k)))
      [ inl t ↦ rw t (is_past-append xs ys k) | inr f ↦ rw f ]

  -- an item past the others may follow them
  pub IsAscending-push : (xs : List X) (x : X) → IsAscending cmp key xs → is_past cmp key xs (key x) ≡ true
      → IsAscending cmp key (xs ++ x ∷ [])
  IsAscending-push [] x a past = (tt, tt)
  IsAscending-push (y ∷ ys) x a past =
      let parts = and_parts _ _ past in
      let below = IsBelow-append cmp order key (key y) ys (x ∷ []) a.0 (Less-from_is_lt _ parts.0, tt) in
      (below, IsAscending-push ys x a.1 parts.1)

  -- only the last item decides whether a key is past an ascending list
  pub is_past-last : (xs : List X) (k : K) (d : X) → IsAscending cmp key xs → 0 < length xs
      → is_past cmp key xs k ≡ is_lt (cmp (key (get_or xs (length xs - 1) d)) k)
  is_past-last [] k d a h = absurd (omega arith)
  is_past-last (x ∷ []) k d a h = elim (cases_Bool (is_lt (cmp (key x) k))) [ inl t ↦ rw t | inr f ↦ rw f ]
  is_past-last (x ∷ y ∷ ys) k d a h =
      let last = get_or (y ∷ ys) (length (y ∷ ys) - 1) d in
      let place : length (x ∷ y ∷ ys) - 1 ≡ suc (length (y ∷ ys) - 1) = omega arith in
      let more : is_past cmp key (y ∷ ys) k ≡ is_lt (cmp (key last) k) = is_past-last (y ∷ ys) k d a.1 (omega arith) in
      let before : cmp (key x) (key last) ≡ Less =
      IsBelow-at cmp order key (key x) (y ∷ ys) (length (y ∷ ys) - 1) d a.0 (omega arith) in
      rw place (elim (cases_Bool (is_lt (cmp (key last) k))) [
        | inl t ↦ rw t (and_from _ _ (ap is_lt (order.trans (key x) (key last) k before (Less-from_is_lt _ t)))
            (more ∙ t))
        | inr f ↦ rw f (and_right _ _ (more ∙ f))
      ])

  -- ---- by places

  pub IsAscending-at : (xs : List X) (i j : ℕ) (d : X) → IsAscending cmp key xs → i < j → j < length xs
      → cmp (key (get_or xs i d)) (key (get_or xs j d)) ≡ Less
  IsAscending-at [] i j d a h l = absurd (omega arith)
  IsAscending-at (x ∷ xs) i zero d a h l = absurd (omega arith)
  IsAscending-at (x ∷ xs) zero (suc j) d a h l = IsBelow-at cmp order key (key x) xs j d a.0 (omega arith)
  IsAscending-at (x ∷ xs) (suc i) (suc j) d a h l = IsAscending-at xs i j d a.1 (omega arith) (omega arith)

  pub IsAscending-from_places : (xs : List X)
      → ((i j : ℕ) (d : X) → i < j → j < length xs → cmp (key (get_or xs i d)) (key (get_or xs j d)) ≡ Less)
      → IsAscending cmp key xs
  IsAscending-from_places [] h = tt
  IsAscending-from_places (x ∷ xs) h = (
    IsBelow-from_places cmp order key (key x) xs (λ j d l. h 0 (suc j) d (omega arith) (omega arith)),
    IsAscending-from_places xs (λ i j d lt l. h (suc i) (suc j) d (omega arith) (omega arith)),
  )

  -- ---- by the test of neighbours

  pub IsAscending-from_test : (xs : List X) → is_ascending cmp key xs ≡ true → IsAscending cmp key xs
  IsAscending-from_test [] h = tt
  IsAscending-from_test (x ∷ []) h = (tt, tt)
  IsAscending-from_test (x ∷ y ∷ ys) h =
      let parts = and_parts _ _ h in
      let less : cmp (key x) (key y) ≡ Less = Less-from_is_lt _ parts.0 in
      let rest : IsAscending cmp key (y ∷ ys) = IsAscending-from_test (y ∷ ys) parts.1 in
      ((less, IsBelow-through cmp order key (key x) (key y) ys less rest.0), rest)

  pub is_ascending-from_fact : (xs : List X) → IsAscending cmp key xs → is_ascending cmp key xs ≡ true
  is_ascending-from_fact [] a = refl
  is_ascending-from_fact (x ∷ []) a = refl
  is_ascending-from_fact (x ∷ y ∷ ys) a = and_from _ _ (ap is_lt a.0.0) (is_ascending-from_fact (y ∷ ys) a.1)

  -- what a test of each two neighbours answers
  pub is_ascending-neighbours : (xs : List X) (r : Bool)
      → IsAllAdjacentAnswer (λ x y b. b ≡ is_lt (cmp (key x) (key y))) xs r → r ≡ is_ascending cmp key xs
  is_ascending-neighbours xs true each = sym (all_less xs each)
    where
      all_less : (ys : List X) → AllAdjacentBelow (λ x y. true ≡ is_lt (cmp (key x) (key y))) ys (length ys)
          → is_ascending cmp key ys ≡ true
      all_less [] h = refl
      all_less (x ∷ []) h = refl
      all_less (x ∷ y ∷ ys) h = and_from _ _ (sym (h 0 x (omega arith))) (all_less (y ∷ ys) (λ k d l.
          let place : suc k + 1 ≡ suc (k + 1) = omega arith in
          rw place at (h (suc k) d (omega arith))))
  is_ascending-neighbours xs false (k, in_range, not_less) = sym (one_not xs k in_range not_less)
    where
      one_not : (ys : List X) (i : ℕ) → i + 1 < length ys
          → ((d : X) → false ≡ is_lt (cmp (key (get_or ys i d)) (key (get_or ys (i + 1) d))))
          → is_ascending cmp key ys ≡ false
      one_not [] i l h = absurd (omega arith)
      one_not (x ∷ []) i l h = absurd (omega arith)
      one_not (x ∷ y ∷ ys) zero l h = and_left _ _ (sym (h x))
      one_not (x ∷ y ∷ ys) (suc i) l h =
          let place : suc i + 1 ≡ suc (i + 1) = omega arith in
          and_right _ _ (one_not (y ∷ ys) i (omega arith) (λ d. rw place at (h d)))

  -- two proofs that a list ascends are one, so a ghost field may say it
  pub IsAscending-prop : (xs : List X) → IsProp (IsAscending cmp key xs)
  IsAscending-prop [] = Unit-prop
  IsAscending-prop (x ∷ xs) = ×_prop (below (key x) xs) (IsAscending-prop xs)
    where
      below : (k : K) (ys : List X) → IsProp (IsBelow cmp key k ys)
      below k [] = Unit-prop
      below k (y ∷ ys) = ×_prop (Ordering-set _ _) (below k ys)
