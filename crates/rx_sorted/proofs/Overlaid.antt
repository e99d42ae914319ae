-- What stands in an ascending list that slots overlay, and what a write into a slot does to it.
use Rattle.std.proofs.Common.{◌≡◌, List, [], ◌∷◌, cond, Option, Some, None, Bool, not}
use Rattle.std.proofs.Common.{length, ◌+◌, ◌≤◌, refl, sym, ap, ◌∙◌, inl, inr, arith}
use Rattle.std.specs.List.{All}
use Rattle.std.specs.Cmp.{IsTotalOrder}
use Rattle.std.specs.Ordering.{is_eq}
use Rattle.std.specs.declared.cmp.Ordering.{Ordering}
use Rattle.std.proofs.lemmas.Bool.{cases_Bool}
use Rattle.std.proofs.lemmas.List.Elements.{All-head, All-tail}
use Rattle.std.proofs.lemmas.List.Filters.{length-filter_both}
use Rattle.rx_sorted.specs.Ascending.{has_key, IsAscending, item_at, put}
use Rattle.rx_sorted.specs.Overlaid.{HoldsOwn, IsUnder, found_under, overlaid, with_slot, written}
use Rattle.rx_sorted.proofs.Edits.{put_there, same_items, without_absent}
use Rattle.rx_sorted.proofs.Keys.{cases_Ordering, Equal-from_is_eq, item_at-below}
use Rattle.rx_sorted.proofs.Kept.{IsAscending-put, IsAscending-without}
use Rattle.rx_sorted.proofs.LookUps.{item_at-put, item_at-tied, item_at-without}
use Rattle.rx_sorted.proofs.Totals.{All-put}

module _ {X K S : Type 0} (cmp : K → K → Ordering) (order : IsTotalOrder cmp) (key : X → K) (slot_key : S → K)
    (held : S → Option X) where
  -- ---- one slot

  IsAscending-written : (xs : List X) (k : K) (o : Option X) → IsAscending cmp key xs
      → IsAscending cmp key (written cmp key slot_key held xs k o)
  IsAscending-written xs k None a = IsAscending-without cmp order key xs k a
  IsAscending-written xs k (Some x) a = IsAscending-put cmp order key xs x a

  item_at-written : (xs : List X) (j k : K) (o : Option X) → IsUnder cmp key slot_key held j o
      → item_at cmp key (written cmp key slot_key held xs j o) k ≡ cond (is_eq (cmp j k)) o (item_at cmp key xs k)
  item_at-written xs j k None own = item_at-without cmp order key xs j k
  item_at-written xs j k (Some x) own = item_at-put cmp order key xs x k
      ∙ ap (λ o. cond (is_eq o) (Some x) (item_at cmp key xs k)) (order.congr (key x) j k own)

  -- what stands under the key already
  written_there : (xs : List X) (k : K) (o : Option X) → IsAscending cmp key xs → IsUnder cmp key slot_key held k o
      → item_at cmp key xs k ≡ o → written cmp key slot_key held xs k o ≡ xs
  written_there xs k None a own there = without_absent cmp order key xs k there
  written_there xs k (Some x) a own there =
      put_there cmp order key xs x a (item_at-tied cmp order key xs (key x) k own ∙ there)

  pub IsAscending-with_slot : (xs : List X) (s : S) → IsAscending cmp key xs
      → IsAscending cmp key (with_slot cmp key slot_key held xs s)
  IsAscending-with_slot xs s a = IsAscending-written xs (slot_key s) (held s) a

  pub item_at-with_slot : (xs : List X) (s : S) (k : K) → HoldsOwn cmp key slot_key held s
      → item_at cmp key (with_slot cmp key slot_key held xs s) k ≡ cond (has_key cmp slot_key k s) (held s) (item_at cmp key xs k)
  item_at-with_slot xs s k own = item_at-written xs (slot_key s) k (held s) own

  -- a slot that holds what stands under its key changes nothing
  pub with_slot-there : (xs : List X) (s : S) → IsAscending cmp key xs → HoldsOwn cmp key slot_key held s
      → item_at cmp key xs (slot_key s) ≡ held s → with_slot cmp key slot_key held xs s ≡ xs
  with_slot-there xs s a own there = written_there xs (slot_key s) (held s) a own there

  -- ---- all slots

  pub IsAscending-overlaid : (xs : List X) (slots : List S) → IsAscending cmp key xs
      → IsAscending cmp key (overlaid cmp key slot_key held xs slots)
  IsAscending-overlaid xs [] a = a
  IsAscending-overlaid xs (s ∷ slots) a =
      IsAscending-overlaid (with_slot cmp key slot_key held xs s) slots (IsAscending-with_slot xs s a)

  -- what the slot of a key holds, else the item that has the key
  pub item_at-overlaid : (xs : List X) (slots : List S) (k : K) → IsAscending cmp slot_key slots
      → All (HoldsOwn cmp key slot_key held) slots
      → item_at cmp key (overlaid cmp key slot_key held xs slots) k
      ≡ found_under cmp key slot_key held (item_at cmp slot_key slots k) (item_at cmp key xs k)
  item_at-overlaid xs [] k rise own = refl
  item_at-overlaid xs (s ∷ slots) k rise own =
      let P : S → Type 0 = HoldsOwn cmp key slot_key held in
      let rest = item_at-overlaid (with_slot cmp key slot_key held xs s) slots k rise.1 (All-tail P s slots own) in
      let one = item_at-with_slot xs s k (All-head P s slots own) in
      elim (cases_Bool (has_key cmp slot_key k s)) [
        | inl here ↦
            let none : item_at cmp slot_key slots k ≡ None =
            sym (item_at-tied cmp order slot_key slots (slot_key s) k (Equal-from_is_eq _ here))
            ∙ item_at-below cmp order slot_key (slot_key s) slots rise.0 in
            rest ∙ rw (none, one, here)
        | inr other ↦ rest ∙ rw (one, other)
      ]

  -- slots under which the same stands
  pub overlaid-same : (xs : List X) (slots others : List S) → IsAscending cmp key xs → IsAscending cmp slot_key slots
      → All (HoldsOwn cmp key slot_key held) slots → IsAscending cmp slot_key others
      → All (HoldsOwn cmp key slot_key held) others
      → ((k : K) → found_under cmp key slot_key held (item_at cmp slot_key slots k) (item_at cmp key xs k)
      ≡ found_under cmp key slot_key held (item_at cmp slot_key others k) (item_at cmp key xs k))
      → overlaid cmp key slot_key held xs slots ≡ overlaid cmp key slot_key held xs others
  overlaid-same xs slots others a rise own too_rise too_own same =
      same_items cmp order key _ _ (IsAscending-overlaid xs slots a) (IsAscending-overlaid xs others a) (λ k.
      item_at-overlaid xs slots k rise own ∙ same k ∙ sym (item_at-overlaid xs others k too_rise too_own))

  -- a write into the slot of a key, or a new slot, goes over what stood there
  pub overlaid-put : (xs : List X) (slots : List S) (s : S) → IsAscending cmp key xs → IsAscending cmp slot_key slots
      → All (HoldsOwn cmp key slot_key held) slots → HoldsOwn cmp key slot_key held s
      → overlaid cmp key slot_key held xs (put cmp slot_key slots s)
      ≡ with_slot cmp key slot_key held (overlaid cmp key slot_key held xs slots) s
  overlaid-put xs slots s a rise own one =
      let P : S → Type 0 = HoldsOwn cmp key slot_key held in
      let too_rise = IsAscending-put cmp order slot_key slots s rise in
      let too_own = All-put cmp order slot_key P slots s own one in
      same_items cmp order key _ _ (IsAscending-overlaid xs (put cmp slot_key slots s) a)
      (IsAscending-with_slot (overlaid cmp key slot_key held xs slots) s (IsAscending-overlaid xs slots a)) (λ k.
      let before = item_at-overlaid xs slots k rise own in
      let after = item_at-with_slot (overlaid cmp key slot_key held xs slots) s k one in
      item_at-overlaid xs (put cmp slot_key slots s) k too_rise too_own
      ∙ rw (after, before, item_at-put cmp order slot_key slots s k) (elim (cases_Bool (has_key cmp slot_key k s)) [
        | inl here ↦ rw here
        | inr other ↦ rw other
      ]))

  -- a slot that is opened with what stands under its key changes nothing
  pub overlaid-open : (xs : List X) (slots : List S) (s : S) → IsAscending cmp key xs → IsAscending cmp slot_key slots
      → All (HoldsOwn cmp key slot_key held) slots → HoldsOwn cmp key slot_key held s
      → item_at cmp key (overlaid cmp key slot_key held xs slots) (slot_key s) ≡ held s
      → overlaid cmp key slot_key held xs (put cmp slot_key slots s) ≡ overlaid cmp key slot_key held xs slots
  overlaid-open xs slots s a rise own one there = overlaid-put xs slots s a rise own one
      ∙ with_slot-there (overlaid cmp key slot_key held xs slots) s (IsAscending-overlaid xs slots a) one there

  -- slots of any keys, each with what stands under its key
  pub overlaid-unchanged : (xs : List X) (slots : List S) → IsAscending cmp key xs → All (HoldsOwn cmp key slot_key held) slots
      → All (λ s. item_at cmp key xs (slot_key s) ≡ held s) slots → overlaid cmp key slot_key held xs slots ≡ xs
  overlaid-unchanged xs [] a own there = refl
  overlaid-unchanged xs (s ∷ slots) a own there =
      let P : S → Type 0 = HoldsOwn cmp key slot_key held in
      let Q : S → Type 0 = λ t. item_at cmp key xs (slot_key t) ≡ held t in
      let first = with_slot-there xs s a (All-head P s slots own) (All-head Q s slots there) in
      ap (λ ys. overlaid cmp key slot_key held ys slots) first
      ∙ overlaid-unchanged xs slots a (All-tail P s slots own) (All-tail Q s slots there)

  -- ---- lengths

  length-put : (xs : List X) (x : X) → length (put cmp key xs x) ≤ length xs + 1
  length-put [] x = omega arith
  length-put (y ∷ ys) x = elim (cases_Ordering (cmp (key y) (key x))) [
    | inl less ↦ let rest = length-put ys x in rw less (omega arith)
    | inr (inl tied) ↦ rw tied (omega arith)
    | inr (inr more) ↦ rw more (omega arith)
  ]

  length-written : (xs : List X) (k : K) (o : Option X) → length (written cmp key slot_key held xs k o) ≤ length xs + 1
  length-written xs k None =
      let p : X → Bool = λ x. not (has_key cmp key k x) in
      omega (arith, length-filter_both p (λ x. not (p x)) (λ x. refl) xs)
  length-written xs k (Some x) = length-put xs x

  -- no more items than items and slots
  pub length-overlaid : (xs : List X) (slots : List S)
      → length (overlaid cmp key slot_key held xs slots) ≤ length xs + length slots
  length-overlaid xs [] = omega arith
  length-overlaid xs (s ∷ slots) =
      let one = length-written xs (slot_key s) (held s) in
      let rest = length-overlaid (with_slot cmp key slot_key held xs s) slots in
      omega arith
