-- A pass over opening rows and slots, side by side: what comes next.
use Rattle.std.proofs.Common.{◌≡◌, ℕ, suc, ◌+◌, ◌<◌, List, [], ◌∷◌, length, get_or, drop, Bool, true, false, not}
use Rattle.std.proofs.Common.{Option, Some, None, add-one, refl, sym, subst, ap, ◌∙◌, inl, inr, arith}
use Rattle.std.specs.List.{All}
use Rattle.std.specs.Ordering.{is_lt}
use Rattle.std.specs.declared.cmp.Ordering.TheVariants.{Less}
use Rattle.std.proofs.lemmas.Cmp.{tied_back}
use Rattle.std.proofs.lemmas.List.{length-drop}
use Rattle.std.proofs.lemmas.List.Elements.{All-drop, All-head, All-tail}
use Rattle.std.proofs.Math.Seq.{drop-cons}
use Rattle.rx_fields.specs.Order.{key_cmp}
use Rattle.rx_fields.specs.declared.key.Key.{Key}
use Rattle.rx_sorted.specs.Ascending.{IsAscending, IsBelow}
use Rattle.rx_sorted.specs.Overlaid.{HoldsOwn, IsUnder, with_slot, written}
use Rattle.rx_sorted.proofs.Kept.{IsAscending-drop}
use Rattle.rx_sorted.proofs.Keys.{IsBelow-through, IsBelow-tied, Less-from_Greater, Less-from_is_lt, cases_Ordering, without-below}
use Rattle.rx_ledger.specs.declared.row.Row.{Row}
use Rattle.rx_ledger.specs.Rows.{row_key}
use Rattle.rx_ledger.proofs.Orders.{key_exact, key_total}
use Rattle.rx_books_store.specs.declared.slot.KeySlot.{KeySlot}
use Rattle.rx_books_store.specs.Standing.{after_held, is_slot_next, past_key}
use Rattle.rx_books_store.specs.Store.{held, slot_key, standing_rows}

abbrev pub Own : KeySlot → Type 0
Own s = HoldsOwn key_cmp row_key slot_key held s

-- ---- a row in front

front_held : (r : Row) (rows : List Row) (k : Key) (h : Option Row) → key_cmp r.key k ≡ Less
    → IsUnder key_cmp row_key slot_key held k h
    → written key_cmp row_key slot_key held (r ∷ rows) k h ≡ r ∷ written key_cmp row_key slot_key held rows k h
front_held r rows k None less under = rw less refl
front_held r rows k (Some x) less under =
    let before : key_cmp r.key x.key ≡ Less = ap (λ j. key_cmp r.key j) (key_exact x.key k under) ∙ less in
    rw before refl

pub row_front : (r : Row) (rows : List Row) (slots : List KeySlot) → IsBelow key_cmp slot_key r.key slots → All Own slots
    → standing_rows (r ∷ rows) slots ≡ r ∷ standing_rows rows slots
row_front r rows [] below own = refl
row_front r rows (s ∷ slots) below own =
    ap (λ xs. standing_rows xs slots) (front_held r rows s.key s.held below.0 (All-head Own s slots own))
    ∙ row_front r (with_slot key_cmp row_key slot_key held rows s) slots below.1 (All-tail Own s slots own)

below_slots : (r : Row) (rows : List Row) (slots : List KeySlot) → IsAscending key_cmp slot_key slots
    → is_slot_next (r ∷ rows) slots ≡ false → IsBelow key_cmp slot_key r.key slots
below_slots r rows [] rise later = tt
below_slots r rows (s ∷ slots) rise later =
    let less : key_cmp r.key s.key ≡ Less = Less-from_is_lt _ (not_not (is_lt (key_cmp r.key s.key)) later) in
    (less, IsBelow-through key_cmp key_total slot_key r.key s.key slots less rise.0)
  where
    not_not : (b : Bool) → not b ≡ false → b ≡ true
    not_not true h = refl
    not_not false h = cc

-- where no slot comes next, the first row does
pub row_next : (r : Row) (rows : List Row) (slots : List KeySlot) → IsAscending key_cmp slot_key slots → All Own slots
    → is_slot_next (r ∷ rows) slots ≡ false → standing_rows (r ∷ rows) slots ≡ r ∷ standing_rows rows slots
row_next r rows slots rise own later = row_front r rows slots (below_slots r rows slots rise later) own

-- or nothing is left
pub none_next : (slots : List KeySlot) → is_slot_next [] slots ≡ false → standing_rows [] slots ≡ []
none_next [] later = refl
none_next (s ∷ slots) later = cc

-- ---- a slot

over_held : (rows : List Row) (s : KeySlot) (slots : List KeySlot) (h : Option Row) → IsAscending key_cmp row_key rows
    → is_slot_next rows (s ∷ slots) ≡ true → IsUnder key_cmp row_key slot_key held s.key h
    → written key_cmp row_key slot_key held rows s.key h ≡ after_held h (past_key s.key rows)
over_held [] s slots None rise next under = refl
over_held [] s slots (Some x) rise next under = refl
over_held (r ∷ rows) s slots None rise next under = elim (cases_Ordering (key_cmp r.key s.key)) [
  | inl less ↦ absurd (let e : false ≡ true = sym (ap (λ o. not (is_lt o)) less) ∙ next in cc)
  | inr (inl tied) ↦
      let below = IsBelow-tied key_cmp key_total row_key s.key r.key rows (tied_back key_total r.key s.key tied) rise.0 in
      rw tied (without-below key_cmp key_total row_key s.key rows below)
  | inr (inr greater) ↦
      let less = Less-from_Greater key_cmp key_total row_key r.key s.key greater in
      rw greater (ap (λ xs. r ∷ xs) (without-below key_cmp key_total row_key s.key rows
      (IsBelow-through key_cmp key_total row_key s.key r.key rows less rise.0)))
]
over_held (r ∷ rows) s slots (Some x) rise next under =
    let same : key_cmp r.key x.key ≡ key_cmp r.key s.key = ap (λ j. key_cmp r.key j) (key_exact x.key s.key under) in
    elim (cases_Ordering (key_cmp r.key s.key)) [
      | inl less ↦ absurd (let e : false ≡ true = sym (ap (λ o. not (is_lt o)) less) ∙ next in cc)
      | inr (inl tied) ↦ rw (same, tied) refl
      | inr (inr greater) ↦ rw (same, greater) refl
    ]

held_front : (h : Option Row) (k : Key) (rows : List Row) (slots : List KeySlot)
    → IsUnder key_cmp row_key slot_key held k h → IsBelow key_cmp slot_key k slots → All Own slots
    → standing_rows (after_held h rows) slots ≡ after_held h (standing_rows rows slots)
held_front None k rows slots under below own = refl
held_front (Some x) k rows slots under below own =
    row_front x rows slots (IsBelow-tied key_cmp key_total slot_key x.key k slots under below) own

-- where a slot comes next, what it holds does, in place of the row under its key
pub slot_next : (rows : List Row) (s : KeySlot) (slots : List KeySlot) → IsAscending key_cmp row_key rows
    → IsAscending key_cmp slot_key (s ∷ slots) → All Own (s ∷ slots) → is_slot_next rows (s ∷ slots) ≡ true
    → standing_rows rows (s ∷ slots) ≡ after_held s.held (standing_rows (past_key s.key rows) slots)
slot_next rows s slots rows_rise rise own next =
    ap (λ xs. standing_rows xs slots) (over_held rows s slots s.held rows_rise next (All-head Own s slots own))
    ∙ held_front s.held s.key (past_key s.key rows) slots (All-head Own s slots own) rise.0 (All-tail Own s slots own)

-- there is one
pub slot_there : (rows : List Row) (slots : List KeySlot) → is_slot_next rows slots ≡ true → 0 < length slots
slot_there rows [] next = cc
slot_there rows (s ∷ slots) next = omega arith

-- ---- by places

module _ (rows : List Row) (slots : List KeySlot) (rows_rise : IsAscending key_cmp row_key rows)
    (rise : IsAscending key_cmp slot_key slots) (own : All Own slots) (i j : ℕ) where
  pub slot_within : is_slot_next (drop i rows) (drop j slots) ≡ true → j < length slots
  slot_within next = omega (arith, slot_there (drop i rows) (drop j slots) next, length-drop j slots)

  pub step_slot : (s : KeySlot) → s ≡ get_or slots j s → is_slot_next (drop i rows) (drop j slots) ≡ true
      → standing_rows (drop i rows) (drop j slots)
      ≡ after_held s.held (standing_rows (past_key s.key (drop i rows)) (drop (j + 1) slots))
  step_slot s is next =
      let lt : j < length slots = slot_within next in
      let here : drop j slots ≡ s ∷ drop (j + 1) slots = rw add-one (drop-cons slots j s lt ∙ ap (λ x. x ∷ drop (suc j) slots) (sym is)) in
      let rest_rise = subst (IsAscending key_cmp slot_key) here (IsAscending-drop key_cmp key_total slot_key j slots rise) in
      let rest_own = subst (All Own) here (All-drop Own j slots own) in
      let next_here = subst (λ ss. is_slot_next (drop i rows) ss ≡ true) here next in
      ap (λ ss. standing_rows (drop i rows) ss) here
      ∙ slot_next (drop i rows) s (drop (j + 1) slots) (IsAscending-drop key_cmp key_total row_key i rows rows_rise) rest_rise
      rest_own next_here

  pub step_row : (r : Row) → i < length rows → r ≡ get_or rows i r → is_slot_next (drop i rows) (drop j slots) ≡ false
      → standing_rows (drop i rows) (drop j slots) ≡ r ∷ standing_rows (drop (i + 1) rows) (drop j slots)
  step_row r lt is later =
      let here : drop i rows ≡ r ∷ drop (i + 1) rows = rw add-one (drop-cons rows i r lt ∙ ap (λ x. x ∷ drop (suc i) rows) (sym is)) in
      ap (λ xs. standing_rows xs (drop j slots)) here
      ∙ row_next r (drop (i + 1) rows) (drop j slots) (IsAscending-drop key_cmp key_total slot_key j slots rise)
      (All-drop Own j slots own) (subst (λ xs. is_slot_next xs (drop j slots) ≡ false) here later)
