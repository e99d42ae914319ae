-- An opening row that a test refuses is passed without a trace.
use Rattle.std.proofs.Common.{◌≡◌, ℕ, zero, suc, ◌<◌, ◌≤◌, List, [], ◌∷◌, length, drop, Bool, true, false, cond, Option, Some, None}
use Rattle.std.proofs.Common.{refl, sym, ap, ◌∙◌, inl, inr, arith}
use Rattle.std.specs.Prelude.{slice_get}
use Rattle.std.specs.List.{All, filter}
use Rattle.std.specs.Ordering.{is_eq}
use Rattle.std.proofs.lemmas.Bool.{cases_Bool}
use Rattle.rx_fields.specs.Order.{key_cmp}
use Rattle.rx_fields.specs.declared.key.Key.{Key}
use Rattle.rx_sorted.specs.Ascending.{IsAscending, has_key, item_at, without}
use Rattle.rx_sorted.specs.Overlaid.{found_under}
use Rattle.rx_sorted.proofs.Edits.{same_items}
use Rattle.rx_sorted.proofs.FilteredPuts.{filter-without_refused}
use Rattle.rx_sorted.proofs.Keys.{Equal-from_is_eq, has_key-itself, item_at-below}
use Rattle.rx_sorted.proofs.Kept.{IsAscending-without}
use Rattle.rx_sorted.proofs.LookUps.{item_at-tied, item_at-without}
use Rattle.rx_sorted.proofs.Overlaid.{IsAscending-overlaid, item_at-overlaid}
use Rattle.rx_sorted.proofs.Totals.{length-without}
use Rattle.rx_ledger.specs.declared.row.Row.{Row}
use Rattle.rx_ledger.specs.Rows.{row_key}
use Rattle.rx_ledger.proofs.Orders.{key_total}
use Rattle.rx_books_store.specs.declared.slot.KeySlot.{KeySlot}
use Rattle.rx_books_store.specs.Store.{held, slot_key, standing_rows}
use Rattle.rx_books_store.proofs.Passes.{Own}

-- ---- one row

module _ (r : Row) (rows : List Row) (slots : List KeySlot) (rows_rise : IsAscending key_cmp row_key (r ∷ rows))
    (rise : IsAscending key_cmp slot_key slots) (own : All Own slots) where
  abbrev all : List Row
  all = standing_rows (r ∷ rows) slots

  abbrev rest : List Row
  rest = standing_rows rows slots

  all_rise : IsAscending key_cmp row_key all
  all_rise = IsAscending-overlaid key_cmp key_total row_key slot_key held (r ∷ rows) slots rows_rise

  rest_rise : IsAscending key_cmp row_key rest
  rest_rise = IsAscending-overlaid key_cmp key_total row_key slot_key held rows slots rows_rise.1

  in_all : (k : Key) → item_at key_cmp row_key all k
      ≡ found_under key_cmp row_key slot_key held (item_at key_cmp slot_key slots k) (item_at key_cmp row_key (r ∷ rows) k)
  in_all k = item_at-overlaid key_cmp key_total row_key slot_key held (r ∷ rows) slots k rise own

  in_rest : (k : Key) → item_at key_cmp row_key rest k
      ≡ found_under key_cmp row_key slot_key held (item_at key_cmp slot_key slots k) (item_at key_cmp row_key rows k)
  in_rest k = item_at-overlaid key_cmp key_total row_key slot_key held rows slots k rise own

  -- a slot of the row's key hides the row
  hidden : (s : KeySlot) → item_at key_cmp slot_key slots r.key ≡ Some s → all ≡ rest
  hidden s there = same_items key_cmp key_total row_key all rest all_rise rest_rise (λ k.
      in_all k ∙ elim (cases_Bool (has_key key_cmp row_key k r)) [
        | inl here ↦
            let slot : item_at key_cmp slot_key slots k ≡ Some s =
            sym (item_at-tied key_cmp key_total slot_key slots r.key k (Equal-from_is_eq _ here)) ∙ there in
            rw slot (sym (in_rest k ∙ rw slot refl))
        | inr other ↦ rw other (sym (in_rest k))
      ])

  -- else it stands, and nothing else under its key
  module _ (none : item_at key_cmp slot_key slots r.key ≡ None) where
    stands : item_at key_cmp row_key all r.key ≡ Some r
    stands = in_all r.key ∙ rw (none, has_key-itself key_cmp key_total row_key r) refl

    without_it : without key_cmp row_key all r.key ≡ rest
    without_it = same_items key_cmp key_total row_key (without key_cmp row_key all r.key) rest
        (IsAscending-without key_cmp key_total row_key all r.key all_rise) rest_rise (λ k.
        item_at-without key_cmp key_total row_key all r.key k ∙ elim (cases_Bool (has_key key_cmp row_key k r)) [
          | inl here ↦
              let tied = Equal-from_is_eq _ here in
              let no_slot : item_at key_cmp slot_key slots k ≡ None =
              sym (item_at-tied key_cmp key_total slot_key slots r.key k tied) ∙ none in
              let no_row : item_at key_cmp row_key rows k ≡ None =
              sym (item_at-tied key_cmp key_total row_key rows r.key k tied)
              ∙ item_at-below key_cmp key_total row_key r.key rows rows_rise.0 in
              rw here (sym (in_rest k ∙ rw (no_slot, no_row) refl))
          | inr other ↦ rw other (in_all k ∙ rw other (sym (in_rest k)))
        ])

  pub one_passed : (p : Row → Bool) → p r ≡ false → filter p all ≡ filter p rest
  one_passed p refused = by_slot (item_at key_cmp slot_key slots r.key) refl
    where
      by_slot : (o : Option KeySlot) → item_at key_cmp slot_key slots r.key ≡ o → filter p all ≡ filter p rest
      by_slot None none = sym (filter-without_refused key_cmp key_total row_key p all r.key r all_rise (stands none) refused)
          ∙ ap (filter p) (without_it none)
      by_slot (Some s) there = ap (filter p) (hidden s there)

  pub one_fewer : length rest ≤ length all
  one_fewer = by_slot (item_at key_cmp slot_key slots r.key) refl
    where
      by_slot : (o : Option KeySlot) → item_at key_cmp slot_key slots r.key ≡ o → length rest ≤ length all
      by_slot None none =
          let shorter = length-without key_cmp key_total row_key all r.key r all_rise (stands none) in
          let same = ap length (without_it none) in
          omega (arith, shorter, same)
      by_slot (Some s) there = let same = ap length (hidden s there) in omega (arith, same)

-- ---- many rows

-- the first n of these rows
front_passed : (p : Row → Bool) (n : ℕ) (rows : List Row) (slots : List KeySlot) → IsAscending key_cmp row_key rows
    → IsAscending key_cmp slot_key slots → All Own slots → n ≤ length rows
    → ((j : ℕ) (r : Row) → j < n → slice_get rows j ≡ Some r → p r ≡ false)
    → filter p (standing_rows rows slots) ≡ filter p (standing_rows (drop n rows) slots)
front_passed p zero rows slots rows_rise rise own within refused = refl
front_passed p (suc n) [] slots rows_rise rise own within refused = absurd (omega (arith, within))
front_passed p (suc n) (r ∷ rows) slots rows_rise rise own within refused =
    one_passed r rows slots rows_rise rise own p (refused 0 r (omega arith) refl)
    ∙ front_passed p n rows slots rows_rise.1 rise own (omega (arith, within)) (λ j x lt. refused (suc j) x (omega (arith, lt)))

front_fewer : (n : ℕ) (rows : List Row) (slots : List KeySlot) → IsAscending key_cmp row_key rows
    → IsAscending key_cmp slot_key slots → All Own slots → n ≤ length rows
    → length (standing_rows (drop n rows) slots) ≤ length (standing_rows rows slots)
front_fewer zero rows slots rows_rise rise own within = omega arith
front_fewer (suc n) [] slots rows_rise rise own within = absurd (omega (arith, within))
front_fewer (suc n) (r ∷ rows) slots rows_rise rise own within =
    let one = one_fewer r rows slots rows_rise rise own in
    let more = front_fewer n rows slots rows_rise.1 rise own (omega (arith, within)) in
    omega (arith, one, more)

-- those from one place to another
pub rows_passed : (p : Row → Bool) (i j : ℕ) (rows : List Row) (slots : List KeySlot) → IsAscending key_cmp row_key rows
    → IsAscending key_cmp slot_key slots → All Own slots → i ≤ j → j ≤ length rows
    → ((m : ℕ) (r : Row) → i ≤ m → m < j → slice_get rows m ≡ Some r → p r ≡ false)
    → filter p (standing_rows (drop i rows) slots) ≡ filter p (standing_rows (drop j rows) slots)
rows_passed p zero j rows slots rows_rise rise own later within refused =
    front_passed p j rows slots rows_rise rise own within (λ m r lt. refused m r (omega arith) lt)
rows_passed p (suc i) zero rows slots rows_rise rise own later within refused = absurd (omega (arith, later))
rows_passed p (suc i) (suc j) [] slots rows_rise rise own later within refused = refl
rows_passed p (suc i) (suc j) (x ∷ rows) slots rows_rise rise own later within refused =
    rows_passed p i j rows slots rows_rise.1 rise own (omega (arith, later)) (omega (arith, within))
    (λ m r le lt. refused (suc m) r (omega (arith, le)) (omega (arith, lt)))

pub rows_fewer : (i j : ℕ) (rows : List Row) (slots : List KeySlot) → IsAscending key_cmp row_key rows
    → IsAscending key_cmp slot_key slots → All Own slots → i ≤ j → j ≤ length rows
    → length (standing_rows (drop j rows) slots) ≤ length (standing_rows (drop i rows) slots)
rows_fewer zero j rows slots rows_rise rise own later within = front_fewer j rows slots rows_rise rise own within
rows_fewer (suc i) zero rows slots rows_rise rise own later within = absurd (omega (arith, later))
rows_fewer (suc i) (suc j) [] slots rows_rise rise own later within = omega arith
rows_fewer (suc i) (suc j) (x ∷ rows) slots rows_rise rise own later within =
    rows_fewer i j rows slots rows_rise.1 rise own (omega (arith, later)) (omega (arith, within))
