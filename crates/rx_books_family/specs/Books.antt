-- Meaning: the books of a ledger: of a fill key the row under it or none, of a family its members and rows.
use Rattle.std.specs.Prelude.{ℕ, Bool, false, List, Option, Some, filter}
use Rattle.std.specs.Option.{option_eq}
use Rattle.std.specs.Ordering.{is_eq}
use Rattle.rx_fields.specs.Order.{key_cmp}
use Rattle.rx_fields.specs.declared.key.Key.{Key}
use Rattle.rx_ledger.specs.declared.member.Member.{Member}
use Rattle.rx_ledger.specs.declared.row.Row.{Row}
use Rattle.rx_ledger.specs.contracts.row.RowPartialEq.TheImpl.{ghosts as row}
use Rattle.rx_ledger.specs.Ledger.{Ledger}
use Rattle.rx_sorted.specs.Ascending.{IsAscending}
use Rattle.rx_ledger.specs.Members.{is_same, member_cmp, member_key, of_family}
use Rattle.rx_ledger.specs.Rows.{claimed_by, row_key}

-- the book of a fill key, and that of a family
pub data Book : Type 0 where
  OfKey : Key → Book
  OfFamily : List ℕ → Book

-- the two are one book
abbrev pub same_book : Book → Book → Bool
same_book (OfKey j) (OfKey k) = is_eq (key_cmp j k)
same_book (OfKey j) (OfFamily g) = false
same_book (OfFamily f) (OfKey k) = false
same_book (OfFamily f) (OfFamily g) = is_same f g

-- the row stands in the book: under its key, or as one of its family
abbrev pub has_row : Book → Row → Bool
has_row (OfKey k) r = is_eq (key_cmp r.key k)
has_row (OfFamily f) r = claimed_by f r

-- the member stands in the book: as one of its family, for a key's book has no members
abbrev pub has_member : Book → Member → Bool
has_member (OfKey k) m = false
has_member (OfFamily f) m = of_family f m

-- what was found is the row
abbrev pub is_found : Row → Option Row → Bool
is_found r found = option_eq row.eq found (Some r)

-- the value of a book: the ledger of its members and rows only
abbrev pub book : Book → Ledger → Ledger
book b L = record { members = filter (has_member b) L.members; rows = filter (has_row b) L.rows }

-- members and rows ascend, as in every ledger
pub record IsInOrder (L : Ledger) : Type 0 where
  pub members_rise : IsAscending member_cmp member_key L.members
  pub rows_rise : IsAscending key_cmp row_key L.rows
