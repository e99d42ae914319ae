-- What stands in an ascending list that slots overlay, run by run: the items before the first slot's key stand as they are.
use Rattle.std.proofs.Common.{◌≡◌, ℕ, zero, suc, ◌<◌, List, [], ◌∷◌, ◌++◌, length, get_or, take, drop}
use Rattle.std.proofs.Common.{Option, Some, None, refl, sym, ap, ◌∙◌, arith}
use Rattle.std.specs.List.{All}
use Rattle.std.specs.Cmp.{IsTotalOrder}
use Rattle.std.specs.declared.cmp.Ordering.{Ordering}
use Rattle.std.specs.declared.cmp.Ordering.TheVariants.{Less, Equal}
use Rattle.std.proofs.lemmas.Cmp.{tied_back}
use Rattle.std.proofs.lemmas.List.Elements.{All-head, All-tail}
use Rattle.std.proofs.lemmas.Map.Lookups.{CmpEqualImpliesEq}
use Rattle.rx_sorted.specs.Ascending.{IsAscending, IsAt, IsBelow, IsGap}
use Rattle.rx_sorted.specs.Overlaid.{HoldsOwn, IsUnder, overlaid, with_slot, written}
use Rattle.rx_sorted.proofs.Keys.{IsBelow-at, IsBelow-from_places, IsBelow-through, IsBelow-tied, Less-from_Greater, put-below, without-below}

-- the items with what a slot holds before them
abbrev pub after : {X : Type 0} → Option X → List X → List X
after None xs = xs
after (Some x) xs = x ∷ xs

module _ {X K S : Type 0} (cmp : K → K → Ordering) (order : IsTotalOrder cmp) (exact : CmpEqualImpliesEq cmp)
    (key : X → K) (slot_key : S → K) (held : S → Option X) where
  abbrev over : List X → List S → List X
  over xs slots = overlaid cmp key slot_key held xs slots

  abbrev OwnOne : S → Type 0
  OwnOne s = HoldsOwn cmp key slot_key held s

  -- ---- an item in front of each slot

  front_held : (x : X) (xs : List X) (k : K) (h : Option X) → cmp (key x) k ≡ Less → IsUnder cmp key slot_key held k h
      → written cmp key slot_key held (x ∷ xs) k h ≡ x ∷ written cmp key slot_key held xs k h
  front_held x xs k None less under = rw less refl
  front_held x xs k (Some y) less under =
      let before : cmp (key x) (key y) ≡ Less = ap (cmp (key x)) (exact (key y) k under) ∙ less in
      rw before refl

  item_front : (x : X) (xs : List X) (slots : List S) → IsBelow cmp slot_key (key x) slots → All OwnOne slots
      → over (x ∷ xs) slots ≡ x ∷ over xs slots
  item_front x xs [] below own = refl
  item_front x xs (s ∷ slots) below own =
      ap (λ (ys : List X). over ys slots) (front_held x xs (slot_key s) (held s) below.0 (All-head OwnOne s slots own))
      ∙ item_front x (with_slot cmp key slot_key held xs s) slots below.1 (All-tail OwnOne s slots own)

  held_front : (h : Option X) (k : K) (xs : List X) (slots : List S) → IsUnder cmp key slot_key held k h
      → IsBelow cmp slot_key k slots → All OwnOne slots → over (after h xs) slots ≡ after h (over xs slots)
  held_front None k xs slots under below own = refl
  held_front (Some x) k xs slots under below own =
      item_front x xs slots (IsBelow-tied cmp order slot_key (key x) k slots under below) own

  -- ---- what a slot holds, at the front

  -- no item has its key
  held_new : (xs : List X) (k : K) (h : Option X) → IsBelow cmp key k xs → IsUnder cmp key slot_key held k h
      → written cmp key slot_key held xs k h ≡ after h xs
  held_new xs k None below under = without-below cmp order key k xs below
  held_new xs k (Some x) below under = put-below cmp order key x xs (IsBelow-tied cmp order key (key x) k xs under below)

  -- the first item has it
  held_over : (x : X) (xs : List X) (k : K) (h : Option X) → cmp (key x) k ≡ Equal → IsBelow cmp key (key x) xs
      → IsUnder cmp key slot_key held k h → written cmp key slot_key held (x ∷ xs) k h ≡ after h xs
  held_over x xs k None tied below under =
      rw tied (without-below cmp order key k xs (IsBelow-tied cmp order key k (key x) xs (tied_back order (key x) k tied) below))
  held_over x xs k (Some y) tied below under =
      let same : cmp (key x) (key y) ≡ Equal = ap (cmp (key x)) (exact (key y) k under) ∙ tied in
      rw same refl

  -- ---- runs

  below_gap : (xs : List X) (k : K) → IsGap cmp key xs k 0 → IsBelow cmp key k xs
  below_gap xs k gap = IsBelow-from_places cmp order key k xs (λ i d lt.
      Less-from_Greater cmp order key (key (get_or xs i d)) k (gap.after i d (omega arith) lt))

  -- the items in front of a gap, and what the slot holds there
  pub run_gap : (xs : List X) (s : S) (slots : List S) (p : ℕ) → IsAscending cmp slot_key (s ∷ slots) → All OwnOne (s ∷ slots)
      → IsGap cmp key xs (slot_key s) p → over xs (s ∷ slots) ≡ take p xs ++ after (held s) (over (drop p xs) slots)
  run_gap xs s slots zero rise own gap =
      let under = All-head OwnOne s slots own in
      ap (λ (ys : List X). over ys slots) (held_new xs (slot_key s) (held s) (below_gap xs (slot_key s) gap) under)
      ∙ held_front (held s) (slot_key s) xs slots under rise.0 (All-tail OwnOne s slots own)
  run_gap [] s slots (suc p) rise own gap = absurd (omega (arith, gap.in_range))
  run_gap (x ∷ xs) s slots (suc p) rise own gap =
      let less : cmp (key x) (slot_key s) ≡ Less = gap.before 0 x (omega arith) in
      let later : IsGap cmp key xs (slot_key s) p = record {
        in_range = omega (arith, gap.in_range);
        before = λ j d lt. gap.before (suc j) d (omega arith);
        after = λ j d le lt. gap.after (suc j) d (omega arith) (omega arith);
      } in
      item_front x xs (s ∷ slots) (less, IsBelow-through cmp order slot_key (key x) (slot_key s) slots less rise.0) own
      ∙ ap (λ (ys : List X). x ∷ ys) (run_gap xs s slots p rise own later)

  -- the items in front of the one that has the slot's key, and what the slot holds in its stead
  pub run_at : (xs : List X) (s : S) (slots : List S) (p : ℕ) → IsAscending cmp key xs → IsAscending cmp slot_key (s ∷ slots)
      → All OwnOne (s ∷ slots) → IsAt cmp key xs (slot_key s) p
      → over xs (s ∷ slots) ≡ take p xs ++ after (held s) (over (drop (suc p) xs) slots)
  run_at [] s slots p up rise own at = absurd (omega (arith, at.in_range))
  run_at (x ∷ xs) s slots zero up rise own at =
      let under = All-head OwnOne s slots own in
      ap (λ (ys : List X). over ys slots) (held_over x xs (slot_key s) (held s) (at.has_it x) up.0 under)
      ∙ held_front (held s) (slot_key s) xs slots under rise.0 (All-tail OwnOne s slots own)
  run_at (x ∷ xs) s slots (suc p) up rise own at =
      let there : p < length xs = omega (arith, at.in_range) in
      let less : cmp (key x) (slot_key s) ≡ Less =
      ap (cmp (key x)) (sym (exact (key (get_or xs p x)) (slot_key s) (at.has_it x)))
      ∙ IsBelow-at cmp order key (key x) xs p x up.0 there in
      let later : IsAt cmp key xs (slot_key s) p = record { in_range = there; has_it = λ d. at.has_it d } in
      item_front x xs (s ∷ slots) (less, IsBelow-through cmp order slot_key (key x) (slot_key s) slots less rise.0) own
      ∙ ap (λ (ys : List X). x ∷ ys) (run_at xs s slots p up.1 rise own later)
