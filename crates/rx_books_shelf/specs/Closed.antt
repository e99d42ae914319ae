-- Plumbing: the books that a closed shelf makes.
use Rattle.std.specs.Prelude.{Bool, true, ◌&&◌, List, Option, Some, None}
use Rattle.std.specs.List.{Contains, list_all}
use Rattle.rx_fields.specs.Order.{key_cmp}
use Rattle.rx_fields.specs.declared.key.Key.{Key}
use Rattle.rx_sorted.specs.Overlaid.{overlaid, with_slot}
use Rattle.rx_ledger.specs.declared.member.Member.{Member}
use Rattle.rx_ledger.specs.declared.row.Row.{Row}
use Rattle.rx_ledger.specs.Rows.{row_key}
use Rattle.rx_books_store.specs.OpenBooks.{OpenParts}
use Rattle.rx_books_family.specs.declared.place.FamilyPlace.{FamilyPlace}
use Rattle.rx_books_family.specs.declared.place.KeyPlace.{KeyPlace}
use Rattle.rx_books_family.specs.Amended.{is_among, members_held}
use Rattle.rx_books_family.specs.Shelves.{ShelfParts, family_place, place_key, row_held}

-- ---- the members

-- the member is in the book of the family, where that has a place
abbrev pub is_in_place : Option FamilyPlace → Member → Bool
is_in_place None m = true
is_in_place (Some p) m = is_among (members_held p) m

abbrev pub is_member_held : ShelfParts → Member → Bool
is_member_held s m = is_in_place (family_place s m.key.family) m

-- each member of the family's book is one in the ledger
abbrev pub does_book_keep : ShelfParts → FamilyPlace → Bool
does_book_keep s p = list_all (is_among s.rest.members) (members_held p)

-- the books have the members that the families have in the ledger
abbrev pub are_members_kept : ShelfParts → Bool
are_members_kept s = list_all (is_member_held s) s.rest.members && list_all (does_book_keep s) s.families

-- ---- the rows

-- open books with other rows, with what a key's place holds, and with what these places hold
abbrev pub with_other_rows : OpenParts → List Row → OpenParts
with_other_rows o rows =
    record o {
      books = record {
        period = o.books.period;
        ledger = record { members = o.books.ledger.members; rows = rows };
      };
    }

abbrev pub with_place : OpenParts → KeyPlace → OpenParts
with_place o p = with_other_rows o (with_slot key_cmp row_key place_key row_held o.books.ledger.rows p)

abbrev pub with_places : OpenParts → List KeyPlace → OpenParts
with_places o places = with_other_rows o (overlaid key_cmp row_key place_key row_held o.books.ledger.rows places)

-- the key of a place has a slot
abbrev pub HasSlot : List Key → KeyPlace → Type 0
HasSlot slots p = Contains slots p.key
