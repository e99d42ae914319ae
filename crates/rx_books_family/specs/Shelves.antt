-- Meaning: a shelf: of each book that is named its place, where the book is or from which it is out; and the ledger next to them,
-- of which the other books are.
use Rattle.std.specs.Prelude.{◌≡◌, ℕ, Bool, true, false, not, ◌&&◌, List, [], Option, Some, None, IfSome}
use Rattle.std.specs.List.{All, Contains, list_all}
use Rattle.std.specs.Option.{is_some, option_and_then, option_to_list}
use Rattle.std.specs.Ordering.{is_eq}
use Rattle.rx_fields.specs.Numbered.{Span}
use Rattle.rx_fields.specs.Order.{id_cmp, key_cmp}
use Rattle.rx_fields.specs.declared.key.Key.{Key}
use Rattle.rx_sorted.specs.Ascending.{IsAscending, contains_key, item_at, itself}
use Rattle.rx_ledger.specs.declared.row.Row.{Row}
use Rattle.rx_ledger.specs.Ledger.{IsLedger, Ledger}
use Rattle.rx_books_family.specs.Books.{Book, OfFamily, OfKey, book, has_row}
use Rattle.rx_books_family.specs.FamilyBook.{FamilyBook, IsOwn, ledger_of_family}
use Rattle.rx_books_family.specs.declared.place.KeyPlace.{KeyPlace}
use Rattle.rx_books_family.specs.declared.place.FamilyPlace.{FamilyPlace}

-- the period of all totals, the ledger next to them, and the places of fill keys and of families, each in order
pub record ShelfParts : Type 0 where
  pub period : Span
  pub rest : Ledger
  pub keys : List KeyPlace
  pub families : List FamilyPlace

-- what a place is found by
abbrev pub place_key : KeyPlace → Key
place_key p = p.key

abbrev pub place_family : FamilyPlace → List ℕ
place_family p = p.family

abbrev pub key_place : ShelfParts → Key → Option KeyPlace
key_place s key = item_at key_cmp place_key s.keys key

abbrev pub family_place : ShelfParts → List ℕ → Option FamilyPlace
family_place s family = item_at id_cmp place_family s.families family

-- ---- what the books are worth

-- the row that a key's place holds
abbrev pub row_held : KeyPlace → Option Row
row_held p = option_and_then itself p.held

-- of what a place holds; a book that is out is empty
abbrev pub key_value : KeyPlace → Ledger
key_value p = record { members = []; rows = option_to_list (row_held p) }

abbrev pub family_value : FamilyPlace → Ledger
family_value p = ledger_of_family p.held

-- of a named book what its place holds, of any other what it is in the ledger next to them
abbrev pub key_value_or : Option KeyPlace → Ledger → Ledger
key_value_or None other = other
key_value_or (Some p) other = key_value p

abbrev pub family_value_or : Option FamilyPlace → Ledger → Ledger
family_value_or None other = other
family_value_or (Some p) other = family_value p

-- the value of each book
abbrev pub value_of : ShelfParts → Book → Ledger
value_of s (OfKey key) = key_value_or (key_place s key) (book (OfKey key) s.rest)
value_of s (OfFamily family) = family_value_or (family_place s family) (book (OfFamily family) s.rest)

-- ---- in its place or out

-- the book is named
abbrev pub has_slot : ShelfParts → Book → Bool
has_slot s (OfKey key) = contains_key key_cmp place_key s.keys key
has_slot s (OfFamily family) = contains_key id_cmp place_family s.families family

abbrev pub is_key_held : KeyPlace → Bool
is_key_held p = is_some p.held

abbrev pub is_family_held : FamilyPlace → Bool
is_family_held p = is_some p.held

abbrev pub is_key_out : Option KeyPlace → Bool
is_key_out None = false
is_key_out (Some p) = not (is_key_held p)

abbrev pub is_family_out : Option FamilyPlace → Bool
is_family_out None = false
is_family_out (Some p) = not (is_family_held p)

-- the book is named, and out of its place
abbrev pub is_out : ShelfParts → Book → Bool
is_out s (OfKey key) = is_key_out (key_place s key)
is_out s (OfFamily family) = is_family_out (family_place s family)

abbrev pub is_key_in : Option KeyPlace → Bool
is_key_in None = false
is_key_in (Some p) = is_key_held p

abbrev pub is_family_in : Option FamilyPlace → Bool
is_family_in None = false
is_family_in (Some p) = is_family_held p

-- the book is named, and in its place
abbrev pub is_in : ShelfParts → Book → Bool
is_in s (OfKey key) = is_key_in (key_place s key)
is_in s (OfFamily family) = is_family_in (family_place s family)

-- no book is out
abbrev pub are_all_in : ShelfParts → Bool
are_all_in s = list_all is_key_held s.keys && list_all is_family_held s.families

-- ---- what a shelf keeps

-- a row that a place holds is under its own key
abbrev pub HoldsOwnRow : KeyPlace → Type 0
HoldsOwnRow p = IfSome (row_held p) (λ r. r.key ≡ p.key)

-- a book is its family's own, with totals of the period
pub record IsOwnBook (period : Span) (family : List ℕ) (b : FamilyBook) : Type 0 where
  pub name : b.family ≡ family
  pub period_same : b.period ≡ period
  pub own : IsOwn b

abbrev pub HoldsOwnBook : Span → FamilyPlace → Type 0
HoldsOwnBook period p = IfSome p.held (IsOwnBook period p.family)

-- the ledger next to them is in order, and each place holds what is its own
pub record IsShelf (s : ShelfParts) : Type 0 where
  pub rest_in_order : IsLedger s.rest
  pub keys_rise : IsAscending key_cmp place_key s.keys
  pub families_rise : IsAscending id_cmp place_family s.families
  pub rows_own : All HoldsOwnRow s.keys
  pub books_own : All (HoldsOwnBook s.period) s.families

-- all values agree: no two different rows have one key, and a row stands in the value of each book that it is of
pub record AreAllAgreed (v : Book → Ledger) : Type 0 where
  pub one : (b c : Book) (r s : Row) → Contains (v b).rows r → Contains (v c).rows s
      → is_eq (key_cmp r.key s.key) ≡ true → r ≡ s
  pub everywhere : (b c : Book) (r : Row) → Contains (v b).rows r → has_row c r ≡ true → Contains (v c).rows r
