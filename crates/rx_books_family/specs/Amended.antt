-- Meaning: the ledger that a shelf's books make together, where they agree (docs/GUARANTEES.md, "Book values").
use Rattle.std.specs.Prelude.{Bool, false, not, List, ◌∷◌, Option, Some, None, filter, map}
use Rattle.rx_fields.specs.Order.{id_cmp, key_cmp}
use Rattle.rx_sorted.specs.Ascending.{contains_key, item_at}
use Rattle.rx_sorted.specs.Joined.{joined}
use Rattle.rx_sorted.specs.Overlaid.{overlaid}
use Rattle.rx_ledger.specs.declared.member.Member.{Member}
use Rattle.rx_ledger.specs.declared.row.Row.{Row}
use Rattle.rx_ledger.specs.contracts.member.MemberPartialEq.TheImpl.{ghosts as member}
use Rattle.rx_ledger.specs.Ledger.{Ledger}
use Rattle.rx_ledger.specs.Members.{member_cmp, member_key}
use Rattle.rx_ledger.specs.Rows.{row_key}
use Rattle.rx_books_family.specs.declared.place.FamilyPlace.{FamilyPlace}
use Rattle.rx_books_family.specs.declared.place.KeyPlace.{KeyPlace}
use Rattle.rx_books_family.specs.Shelves.{AreAllAgreed, IsShelf, ShelfParts, family_value, place_family, place_key, row_held, value_of}

-- what was found is the member
abbrev pub is_member_found : Member → Option Member → Bool
is_member_found m None = false
is_member_found m (Some n) = member.eq n m

-- a member of these is the member
abbrev pub is_among : List Member → Member → Bool
is_among members m = is_member_found m (item_at member_cmp member_key members m.key)

-- ---- all books together

-- the members that a family's place holds
abbrev pub members_held : FamilyPlace → List Member
members_held p = (family_value p).members

-- the family of the member has no place; the row's fill key has none
abbrev pub is_unplaced : List FamilyPlace → Member → Bool
is_unplaced places m = not (contains_key id_cmp place_family places m.key.family)

abbrev pub is_unkeyed : List KeyPlace → Row → Bool
is_unkeyed places r = not (contains_key key_cmp place_key places r.key)

-- the members of the families without a place, and those that the places hold
abbrev pub amended_members : List Member → List FamilyPlace → List Member
amended_members members places =
    joined member_cmp member_key (filter (is_unplaced places) members ∷ map members_held places)

-- the rows, with what the place of each fill key holds
abbrev pub amended_rows : List Row → List KeyPlace → List Row
amended_rows rows places = overlaid key_cmp row_key place_key row_held rows places

abbrev pub amended : ShelfParts → Ledger
amended s = record {
  members = amended_members s.rest.members s.families;
  rows = amended_rows s.rest.rows s.keys;
}

-- a shelf whose values agree
pub record IsAmended (s : ShelfParts) : Type 0 where
  pub shelf : IsShelf s
  pub agreed : AreAllAgreed (value_of s)
