-- Slots in order, of which one is changed: the list with the changed slot written over it.
use Rattle.std.proofs.Common.{◌≡◌, ℕ, zero, suc, List, [], ◌∷◌, get_or, set, Bool, true, false, None, refl, sym, ap, inl, inr, arith}
use Rattle.std.specs.Bool.{then_some}
use Rattle.std.specs.Option.{is_some}
use Rattle.std.specs.Cmp.{IsTotalOrder}
use Rattle.std.specs.Ordering.{is_eq}
use Rattle.std.specs.declared.cmp.Ordering.{Ordering}
use Rattle.std.specs.declared.cmp.Ordering.TheVariants.{Less}
use Rattle.std.proofs.lemmas.Bool.{cases_Bool}
use Rattle.std.proofs.lemmas.Cmp.{tied_back}
use Rattle.rx_sorted.specs.Ascending.{IsAscending, IsAt, IsBelow, IsGap, has_key, item_at}
use Rattle.rx_sorted.proofs.Keys.{Greater-from_Less, IsBelow-tied}
use Rattle.rx_sorted.proofs.Kept.{IsAscending-map}
use Rattle.rx_sorted.proofs.Places.{has_key-elsewhere, item_at-gap}
use Rattle.rx_sorted.specs.Slots.{one_at, over}

-- whether a place is known
pub is_told : (b : Bool) (place : ℕ) → is_some (then_some b place) ≡ b
is_told true place = refl
is_told false place = refl

module _ {X K : Type 0} (cmp : K → K → Ordering) (order : IsTotalOrder cmp) (key : X → K) where
  pub apart : (k : K) (y : X) → cmp k (key y) ≡ Less → has_key cmp key k y ≡ false
  apart k y less = ap is_eq (Greater-from_Less cmp order key k (key y) less)

  over_below : (f : X → X) (k : K) (xs : List X) → IsBelow cmp key k xs → over cmp key f k xs ≡ xs
  over_below f k [] b = refl
  over_below f k (y ∷ ys) b = rw (apart k y b.0) (ap (λ zs. y ∷ zs) (over_below f k ys b.1))

  pub over_absent : (f : X → X) (k : K) (xs : List X) → item_at cmp key xs k ≡ None → over cmp key f k xs ≡ xs
  over_absent f k [] h = refl
  over_absent f k (y ∷ ys) h = elim (cases_Bool (has_key cmp key k y)) [
    | inl here ↦ absurd (let e = rw here at h in cc)
    | inr other ↦ rw other (ap (λ zs. y ∷ zs) (over_absent f k ys (rw other at h)))
  ]

  pub over_gap : (f : X → X) (k : K) (xs : List X) (i : ℕ) → IsGap cmp key xs k i → over cmp key f k xs ≡ xs
  over_gap f k xs i gap = over_absent f k xs (item_at-gap cmp order key xs k i gap)

  pub over_at : (f : X → X) (k : K) (xs : List X) (i : ℕ) (d : X) → IsAscending cmp key xs → IsAt cmp key xs k i
      → set xs i (f (get_or xs i d)) ≡ over cmp key f k xs
  over_at f k [] i d a is_at = absurd (omega (arith, is_at.in_range))
  over_at f k (y ∷ ys) zero d a is_at =
      let below = IsBelow-tied cmp order key k (key y) ys (tied_back order (key y) k (is_at.has_it d)) a.0 in
      rw (is_at.has_it d) (ap (λ zs. f y ∷ zs) (sym (over_below f k ys below)))
  over_at f k (y ∷ ys) (suc i) d a is_at =
      let next : IsAt cmp key ys k i = record { in_range = omega (arith, is_at.in_range); has_it = is_at.has_it } in
      rw (has_key-elsewhere cmp order key (y ∷ ys) k (suc i) a is_at 0 d (omega arith) (omega arith))
      (ap (λ zs. y ∷ zs) (over_at f k ys i d a.1 next))

  pub one_keeps : (f : X → X) → ((y : X) → key (f y) ≡ key y) → (k : K) (y : X) → key (one_at cmp key f k y) ≡ key y
  one_keeps f keeps k y = elim (cases_Bool (has_key cmp key k y)) [ inl here ↦ rw here (keeps y) | inr other ↦ rw other refl ]

  pub over_rises : (f : X → X) → ((y : X) → key (f y) ≡ key y) → (k : K) (xs : List X) → IsAscending cmp key xs
      → IsAscending cmp key (over cmp key f k xs)
  over_rises f keeps k xs a = IsAscending-map cmp order key key (one_at cmp key f k) (one_keeps f keeps k) xs a
