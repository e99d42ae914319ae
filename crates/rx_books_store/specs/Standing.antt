-- Plumbing: a pass over the rows that stand, side by side with the slots.
use Rattle.std.specs.Prelude.{◌≡◌, ℕ, ◌<◌, ◌≤◌, IfSome, Bool, true, false, not, List, [], ◌∷◌, Option, Some, None, cond, drop, length, slice_get, slice_index_or}
use Rattle.std.specs.List.{All, filter}
use Rattle.std.specs.Ordering.{is_eq, is_lt}
use Rattle.rx_fields.specs.Order.{key_cmp}
use Rattle.rx_fields.specs.declared.key.Key.{Key}
use Rattle.rx_sorted.specs.Ascending.{IsAscending, IsAt}
use Rattle.rx_ledger.specs.declared.member.Member.{Member}
use Rattle.rx_ledger.specs.declared.row.Row.{Row}
use Rattle.rx_ledger.specs.Ledger.{IsLedger, Ledger}
use Rattle.rx_ledger.specs.Members.{member_cmp, member_key}
use Rattle.rx_ledger.specs.Rows.{member_of_row}
use Rattle.rx_books_store.specs.declared.slot.KeySlot.{KeySlot}
use Rattle.rx_books_store.specs.Store.{IsSlot, slot_key, standing_rows}

-- the first slot comes before the first row, or under its key
abbrev pub is_slot_next : List Row → List KeySlot → Bool
is_slot_next rows [] = false
is_slot_next [] (s ∷ slots) = true
is_slot_next (r ∷ rows) (s ∷ slots) = not (is_lt (key_cmp r.key s.key))

-- the rows without the first, where it has the key
abbrev pub past_key : Key → List Row → List Row
past_key key [] = []
past_key key (r ∷ rows) = cond (is_eq (key_cmp r.key key)) rows (r ∷ rows)

-- the rows with this one before them, or with none
abbrev pub after_held : Option Row → List Row → List Row
after_held None rows = rows
after_held (Some r) rows = r ∷ rows

-- the rows that stand, after this many opening rows and slots
abbrev pub still_to_come : Ledger → List KeySlot → ℕ → ℕ → List Row
still_to_come opening slots row slot = standing_rows (drop row opening.rows) (drop slot slots)

-- what a pass keeps
pub record IsPass (opening : Ledger) (slots : List KeySlot) (row : ℕ) : Type 0 where
  pub rise : IsAscending key_cmp slot_key slots
  pub own : All (IsSlot opening.members) slots
  pub within : row ≤ length opening.rows

-- ---- rows of members who have a mark

-- the member at a place has a mark
abbrev pub is_marked : List Bool → ℕ → Bool
is_marked marks place = slice_index_or marks place false

-- the row's member has none
pub record IsUnmarked (members : List Member) (marks : List Bool) (r : Row) : Type 0 where
  pub place : ℕ
  pub holder : IsAt member_cmp member_key members (member_of_row r) place
  pub unmarked : is_marked marks place ≡ false

-- the place of the first row from a place on whose member has one; how many rows there are if none has
pub record IsNextMarked (L : Ledger) (marks : List Bool) (from next : ℕ) : Type 0 where
  pub in_order : IsLedger L
  pub later : from ≤ next
  pub within : next ≤ length L.rows
  pub unmarked : (i : ℕ) → from ≤ i → i < next → IfSome (slice_get L.rows i) (IsUnmarked L.members marks)

-- the rows after some were passed: a test that refuses rows of unmarked members passes the same ones as before
pub record ArePassed (marks : List Bool) (old new : Ledger) : Type 0 where
  pub members : new.members ≡ old.members
  pub rows : (p : Row → Bool) → ((r : Row) → IsUnmarked old.members marks r → p r ≡ false)
      → filter p new.rows ≡ filter p old.rows
  pub fewer : length new.rows ≤ length old.rows
