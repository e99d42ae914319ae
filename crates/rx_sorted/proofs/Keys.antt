-- What an order says of two keys, and of a key below a whole list.
use Rattle.std.proofs.Common.{◌≡◌, ℕ, zero, suc, ◌<◌, List, [], ◌∷◌, ◌++◌, length, get_or, Bool, true, false, None}
use Rattle.std.proofs.Common.{refl, ap, ◌∙◌, inl, inr, arith}
use Rattle.std.specs.Prelude.{◌⊎◌}
use Rattle.std.specs.List.{filter}
use Rattle.std.specs.Cmp.{IsTotalOrder}
use Rattle.std.specs.Ordering.{is_eq, is_lt, ordering_reverse}
use Rattle.std.specs.declared.cmp.Ordering.{Ordering}
use Rattle.std.specs.declared.cmp.Ordering.TheVariants.{Less, Equal, Greater}
use Rattle.std.proofs.lemmas.Bool.{cases_Bool}
use Rattle.std.proofs.lemmas.Cmp.{alike_right, tied_itself}
use Rattle.rx_sorted.specs.Ascending.{has_key, IsBelow, item_at, put, without}

-- the three answers of a comparison
pub cases_Ordering : (o : Ordering) → (o ≡ Less) ⊎ (o ≡ Equal) ⊎ (o ≡ Greater)
cases_Ordering Less = inl refl
cases_Ordering Equal = inr (inl refl)
cases_Ordering Greater = inr (inr refl)

pub Equal-from_is_eq : (o : Ordering) → is_eq o ≡ true → o ≡ Equal
Equal-from_is_eq Less h = cc
Equal-from_is_eq Equal h = refl
Equal-from_is_eq Greater h = cc

-- an answer that is no tie is none the other way round
pub is_eq-turned : (o p : Ordering) → p ≡ ordering_reverse o → is_eq o ≡ false → is_eq p ≡ false
is_eq-turned Less p e h = ap is_eq e
is_eq-turned Equal p e h = cc
is_eq-turned Greater p e h = ap is_eq e

pub Less-from_is_lt : (o : Ordering) → is_lt o ≡ true → o ≡ Less
Less-from_is_lt Less h = refl
Less-from_is_lt Equal h = cc
Less-from_is_lt Greater h = cc

module _ {X K : Type 0} (cmp : K → K → Ordering) (order : IsTotalOrder cmp) (key : X → K) where
  -- what stands after a key does not stand before it
  pub Greater-from_Less : (j k : K) → cmp j k ≡ Less → cmp k j ≡ Greater
  Greater-from_Less j k h = order.antisymm k j ∙ ap ordering_reverse h

  pub Less-from_Greater : (j k : K) → cmp j k ≡ Greater → cmp k j ≡ Less
  Less-from_Greater j k h = order.antisymm k j ∙ ap ordering_reverse h

  -- a key below a key that is below each
  pub IsBelow-through : (j k : K) (xs : List X) → cmp j k ≡ Less → IsBelow cmp key k xs → IsBelow cmp key j xs
  IsBelow-through j k [] h b = tt
  IsBelow-through j k (x ∷ xs) h b = (order.trans j k (key x) h b.0, IsBelow-through j k xs h b.1)

  -- a key that ties with one that is below each
  pub IsBelow-tied : (j k : K) (xs : List X) → cmp j k ≡ Equal → IsBelow cmp key k xs → IsBelow cmp key j xs
  IsBelow-tied j k [] h b = tt
  IsBelow-tied j k (x ∷ xs) h b = (order.congr j k (key x) h ∙ b.0, IsBelow-tied j k xs h b.1)

  pub IsBelow-filter : (p : X → Bool) (k : K) (xs : List X) → IsBelow cmp key k xs → IsBelow cmp key k (filter p xs)
  IsBelow-filter p k [] b = tt
  IsBelow-filter p k (x ∷ xs) b = elim (cases_Bool (p x)) [
    | inl t ↦ rw t (b.0, IsBelow-filter p k xs b.1)
    | inr f ↦ rw f (IsBelow-filter p k xs b.1)
  ]

  pub IsBelow-append : (k : K) (xs ys : List X) → IsBelow cmp key k xs → IsBelow cmp key k ys
      → IsBelow cmp key k (xs ++ ys)
  IsBelow-append k [] ys b c = c
  IsBelow-append k (x ∷ xs) ys b c = (b.0, IsBelow-append k xs ys b.1 c)

  pub IsBelow-put : (k : K) (xs : List X) (x : X) → cmp k (key x) ≡ Less → IsBelow cmp key k xs
      → IsBelow cmp key k (put cmp key xs x)
  IsBelow-put k [] x h b = (h, tt)
  IsBelow-put k (y ∷ ys) x h b = elim (cases_Ordering (cmp (key y) (key x))) [
    | inl less ↦ rw less (b.0, IsBelow-put k ys x h b.1)
    | inr (inl tied) ↦ rw tied (h, b.1)
    | inr (inr more) ↦ rw more (h, (b.0, b.1))
  ]

  -- ---- a key and an item

  pub has_key-itself : (x : X) → has_key cmp key (key x) x ≡ true
  has_key-itself x = ap is_eq (tied_itself order (key x))

  -- keys that tie are those of the same items
  pub has_key-tied : (j k : K) (x : X) → cmp j k ≡ Equal → has_key cmp key j x ≡ has_key cmp key k x
  has_key-tied j k x h = ap is_eq (alike_right order j k (key x) h)

  -- an item has both of two keys that tie, and one of two keys that do not
  pub has_key-both : (j k : K) (x : X) → has_key cmp key j x ≡ true → has_key cmp key k x ≡ is_eq (cmp j k)
  has_key-both j k x h = ap is_eq (order.congr (key x) j k (Equal-from_is_eq _ h))

  -- ---- below a list

  pub IsBelow-at : (k : K) (xs : List X) (i : ℕ) (d : X) → IsBelow cmp key k xs → i < length xs
      → cmp k (key (get_or xs i d)) ≡ Less
  IsBelow-at k [] i d b h = absurd (omega arith)
  IsBelow-at k (x ∷ xs) zero d b h = b.0
  IsBelow-at k (x ∷ xs) (suc i) d b h = IsBelow-at k xs i d b.1 (omega arith)

  pub IsBelow-from_places : (k : K) (xs : List X)
      → ((i : ℕ) (d : X) → i < length xs → cmp k (key (get_or xs i d)) ≡ Less) → IsBelow cmp key k xs
  IsBelow-from_places k [] h = tt
  IsBelow-from_places k (x ∷ xs) h = (
    h 0 x (omega arith),
    IsBelow-from_places k xs
        (λ i d lt. h (suc i) d (omega arith)),
  )

  -- no item has a key below the list
  pub item_at-below : (k : K) (xs : List X) → IsBelow cmp key k xs → item_at cmp key xs k ≡ None
  item_at-below k [] b = refl
  item_at-below k (x ∷ xs) b = rw (Greater-from_Less k (key x) b.0) (item_at-below k xs b.1)

  pub put-below : (x : X) (xs : List X) → IsBelow cmp key (key x) xs → put cmp key xs x ≡ x ∷ xs
  put-below x [] b = refl
  put-below x (y ∷ ys) b = rw (Greater-from_Less (key x) (key y) b.0)

  pub without-below : (k : K) (xs : List X) → IsBelow cmp key k xs → without cmp key xs k ≡ xs
  without-below k [] b = refl
  without-below k (x ∷ xs) b = rw (Greater-from_Less k (key x) b.0) (ap (λ ys. x ∷ ys) (without-below k xs b.1))
