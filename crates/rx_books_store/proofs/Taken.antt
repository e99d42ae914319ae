-- Rows that open books take over from a ledger, one fill key after another.
use Rattle.std.proofs.Common.{◌≡◌, ℕ, List, [], ◌∷◌, ◌++◌, cond, true, false, Option, Some, None}
use Rattle.std.proofs.Common.{sym, subst, ap, ◌∙◌, inl, inr}
use Rattle.std.specs.Prelude.{slice_get}
use Rattle.std.specs.List.{All, Contains}
use Rattle.std.specs.Option.{is_some}
use Rattle.std.specs.Ordering.{is_eq}
use Rattle.std.proofs.lemmas.Bool.{cases_Bool}
use Rattle.std.proofs.lemmas.Cmp.{tied_itself}
use Rattle.std.proofs.lemmas.List.Elements.{Contains-append_left, Contains-push, Contains-push_cases}
use Rattle.std.proofs.lemmas.Option.{get_or_from_slice_get, slice_get_within}
use Rattle.rx_fields.specs.Order.{key_cmp}
use Rattle.rx_fields.specs.declared.key.Key.{Key}
use Rattle.rx_sorted.specs.Ascending.{IsAscending, IsAt, IsGap, has_key, put, without}
use Rattle.rx_sorted.specs.Overlaid.{IsUnder, found_under, written}
use Rattle.rx_sorted.proofs.Edits.{put-without, without_absent}
use Rattle.rx_sorted.proofs.Keys.{Equal-from_is_eq}
use Rattle.rx_sorted.proofs.LookUps.{item_at-free, item_at-without_same}
use Rattle.rx_sorted.proofs.Overlaid.{item_at-overlaid, item_at-with_slot, with_slot-there}
use Rattle.rx_sorted.proofs.Places.{item_at-gap}
use Rattle.rx_ledger.specs.declared.member.Member.{Member}
use Rattle.rx_ledger.specs.declared.row.Row.{Row}
use Rattle.rx_ledger.specs.Ledger.{Ledger, is_taken, row_under}
use Rattle.rx_ledger.specs.Members.{member_cmp, member_key}
use Rattle.rx_ledger.specs.Rows.{member_of_row, row_key}
use Rattle.rx_ledger.proofs.Orders.{key_exact, key_total}
use Rattle.rx_books_store.specs.declared.slot.KeySlot.{KeySlot}
use Rattle.rx_books_store.specs.OpenBooks.{HasTaken, OpenParts, open_over, open_with, open_without}
use Rattle.rx_books_store.specs.Store.{IsSlot, held, slot_key, standing}
use Rattle.rx_books_store.proofs.Passes.{Own}

-- ---- the slot of a key

-- the slot that is at a key's place
pub key-there : (slots : List KeySlot) (k : Key) (i : ℕ) (s : KeySlot) → IsAt key_cmp slot_key slots k i
    → slice_get slots i ≡ Some s → s.key ≡ k
key-there slots k i s is_at there = ap slot_key (sym (get_or_from_slice_get slots i s s there)) ∙ key_exact _ _ (is_at.has_it s)

pub own-there : (members : List Member) (slots : List KeySlot) (i : ℕ) (s : KeySlot) → slice_get slots i ≡ Some s
    → All (IsSlot members) slots → IsSlot members s
own-there members slots i s there own =
    subst (IsSlot members) (get_or_from_slice_get slots i s s there) (own i s (slice_get_within slots i s there))

-- the row that a slot holds is under its key, and of the member at its place
module _ (members : List Member) (s : KeySlot) (r : Row) (own : IsSlot members s) (some : s.held ≡ Some r) where
  pub own-key : r.key ≡ s.key
  own-key = key_exact r.key s.key (rw some at own.under)

  pub own-holder : IsAt member_cmp member_key members (member_of_row r) s.holder
  own-holder = rw some at own.holder

-- where a key has no slot, the opening row stands
pub under-gap : (opening : Ledger) (slots : List KeySlot) (k : Key) (i : ℕ) → IsAscending key_cmp slot_key slots
    → All (IsSlot opening.members) slots → IsGap key_cmp slot_key slots k i
    → row_under (standing opening slots) k ≡ row_under opening k
under-gap opening slots k i rise own gap =
    let under : All Own slots = λ j d lt. (own j d lt).under in
    item_at-overlaid key_cmp key_total row_key slot_key held opening.rows slots k rise under
    ∙ ap (λ o. found_under key_cmp row_key slot_key held o (row_under opening k))
    (item_at-gap key_cmp key_total slot_key slots k i gap)

-- ---- what a slot holds, written over what stands

-- the open books with these rows
abbrev with_rows : OpenParts → List Row → OpenParts
with_rows o rows = record {
  books = record { period = o.books.period; ledger = record { members = o.books.ledger.members; rows = rows } };
  slots = o.slots;
}

module _ (o : OpenParts) where
  abbrev rows_now : List Row
  rows_now = o.books.ledger.rows

  -- the same stands already
  pub over-same : (s : KeySlot) → IsAscending key_cmp row_key rows_now → Own s → row_under o.books.ledger s.key ≡ s.held
      → o ≡ open_over o s
  over-same s rise own there =
      sym (ap (with_rows o) (with_slot-there key_cmp key_total row_key slot_key held rows_now s rise own there))

  -- nothing stands under the key that is taken out
  pub without-none : (k : Key) → row_under o.books.ledger k ≡ None → o ≡ open_without o k
  without-none k none = sym (ap (with_rows o) (without_absent key_cmp key_total row_key rows_now k none))

  -- a slot that holds none
  pub over-none : (s : KeySlot) → is_taken o.books.ledger s.key ≡ false → s.held ≡ None → o ≡ open_over o s
  over-none s free none =
      without-none s.key (item_at-free key_cmp key_total row_key rows_now s.key free)
      ∙ ap (λ h. with_rows o (written key_cmp row_key slot_key held rows_now s.key h)) (sym none)

  -- a slot that holds a row
  pub over-some : (s : KeySlot) (r : Row) → s.held ≡ Some r → open_with o r ≡ open_over o s
  over-some s r some = ap (λ h. with_rows o (written key_cmp row_key slot_key held rows_now s.key h)) (sym some)

  -- the key that is taken out is free
  pub without-free : (k : Key) → is_taken (open_without o k).books.ledger k ≡ false
  without-free k = ap is_some (item_at-without_same key_cmp key_total row_key rows_now k)

  -- what stood under the key doesn't matter
  pub over-without : (s : KeySlot) → IsAscending key_cmp row_key rows_now → Own s
      → open_over (open_without o s.key) s ≡ open_over o s
  over-without s rise own = ap (with_rows o) (by_held s.held own)
    where
      by_held : (h : Option Row) → IsUnder key_cmp row_key slot_key held s.key h
          → written key_cmp row_key slot_key held (without key_cmp row_key rows_now s.key) s.key h
          ≡ written key_cmp row_key slot_key held rows_now s.key h
      by_held None under = without_absent key_cmp key_total row_key (without key_cmp row_key rows_now s.key) s.key
          (item_at-without_same key_cmp key_total row_key rows_now s.key)
      by_held (Some r) under =
          ap (λ k. put key_cmp row_key (without key_cmp row_key rows_now k) r) (sym (key_exact r.key s.key under))
          ∙ put-without key_cmp key_total row_key rows_now r rise

-- ---- one fill key more

module _ (old mid : OpenParts) (from : Ledger) (keys : List Key) (s : KeySlot) (so_far : HasTaken old from keys mid)
    (own : Own s) (there : row_under from s.key ≡ s.held) where
  abbrev after : OpenParts
  after = open_over mid s

  read : (k : Key) → row_under after.books.ledger k
      ≡ cond (has_key key_cmp slot_key k s) s.held (row_under mid.books.ledger k)
  read k = item_at-with_slot key_cmp key_total row_key slot_key held mid.books.ledger.rows s k own

  apart : (k : Key) → has_key key_cmp slot_key k s ≡ false → s.key ≡ k → ⊥
  apart k other same =
      let tied : is_eq (key_cmp s.key k) ≡ true = ap is_eq (ap (λ j. key_cmp j k) same ∙ tied_itself key_total k) in
      absurd (let e : true ≡ false = sym tied ∙ other in cc)

  taken-more : (k : Key) → Contains (keys ++ s.key ∷ []) k → row_under after.books.ledger k ≡ row_under from k
  taken-more k among = read k ∙ elim (cases_Bool (has_key key_cmp slot_key k s)) [
    | inl here ↦ rw here (sym there ∙ ap (row_under from) (key_exact s.key k (Equal-from_is_eq _ here)))
    | inr other ↦ rw other (elim (Contains-push_cases keys s.key k among) [
      | inl before ↦ so_far.taken k before
      | inr same ↦ absurd (apart k other same)
    ])
  ]

  kept-more : (k : Key) → ¬ Contains (keys ++ s.key ∷ []) k
      → row_under after.books.ledger k ≡ row_under old.books.ledger k
  kept-more k outside = read k ∙ elim (cases_Bool (has_key key_cmp slot_key k s)) [
    | inl here ↦ absurd (outside (subst (Contains (keys ++ s.key ∷ [])) (key_exact s.key k (Equal-from_is_eq _ here))
        (Contains-push keys s.key)))
    | inr other ↦ rw other (so_far.kept k (λ among. outside (Contains-append_left keys (s.key ∷ []) k among)))
  ]

  pub one_taken : HasTaken old from (keys ++ s.key ∷ []) after
  one_taken = record {
    slots = so_far.slots;
    period = so_far.period;
    members = so_far.members;
    taken = taken-more;
    kept = kept-more;
  }
