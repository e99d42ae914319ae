-- Meaning: books as a whole: the books that were opened, with places that stand instead of what these hold under their fill keys
-- and of their families.
use Rattle.std.specs.Prelude.{ℕ, Bool, true, ◌&&◌, ◌||◌, List, [], ◌∷◌, Option, Some, None}
use Rattle.std.specs.List.{list_all}
use Rattle.std.specs.Option.{option_and_then}
use Rattle.rx_fields.specs.Order.{id_cmp, key_cmp}
use Rattle.rx_fields.specs.contracts.period.PeriodPartialEq.TheImpl.{ghosts as period}
use Rattle.rx_sorted.specs.Ascending.{contains_key}
use Rattle.rx_ledger.specs.declared.member.Member.{Member}
use Rattle.rx_ledger.specs.declared.row.Row.{Row}
use Rattle.rx_ledger.specs.Ledger.{Ledger, row_under}
use Rattle.rx_ledger.specs.Sums.{family_deductible_in, out_of_pocket_in}
use Rattle.rx_books_family.specs.Books.{is_found}
use Rattle.rx_books_family.specs.FamilyBook.{deductible_at}
use Rattle.rx_books_family.specs.declared.place.FamilyPlace.{FamilyPlace}
use Rattle.rx_books_family.specs.declared.place.KeyPlace.{KeyPlace}
use Rattle.rx_books_family.specs.Amended.{amended, is_among}
use Rattle.rx_books_family.specs.Shelves.{ShelfParts, place_family, place_key}
use Rattle.rx_books_store.specs.LedgerBooks.{LedgerBooks}

-- the books without these places
abbrev pub beside : LedgerBooks → List KeyPlace → List FamilyPlace → ShelfParts
beside b keys families = record { period = b.period; rest = b.ledger; keys = keys; families = families }

-- the books that all make together
abbrev pub amended_books : LedgerBooks → List KeyPlace → List FamilyPlace → LedgerBooks
amended_books b keys families = record { period = b.period; ledger = amended (beside b keys families) }

-- ---- the figures that a family's place holds

-- the figure, where there is a member
abbrev pub if_any : List Member → ℕ → Option ℕ
if_any [] n = None
if_any (m ∷ ms) n = Some n

abbrev pub deductible_held : List ℕ → FamilyPlace → Option ℕ
deductible_held person p = option_and_then (λ b. deductible_at b person) p.held

abbrev pub out_of_pocket_held : FamilyPlace → Option ℕ
out_of_pocket_held p = option_and_then (λ b. if_any b.members (out_of_pocket_in b.period b.rows)) p.held

abbrev pub family_deductible_held : FamilyPlace → Option ℕ
family_deductible_held p = option_and_then (λ b. if_any b.members (family_deductible_in b.period b.rows)) p.held

-- ---- whether two are one

-- the row stands in the ledger, if there is one
abbrev pub has_row : Ledger → Row → Bool
has_row L r = is_found r (row_under L r.key)

abbrev pub has_if_row : Ledger → Option Row → Bool
has_if_row L None = true
has_if_row L (Some r) = has_row L r

-- the member is listed, or its family has a place; the row stands, or its fill key has a place
abbrev pub has_unplaced : Ledger → List FamilyPlace → Member → Bool
has_unplaced L places m = contains_key id_cmp place_family places m.key.family || is_among L.members m

abbrev pub has_unkeyed : Ledger → List KeyPlace → Row → Bool
has_unkeyed L places r = contains_key key_cmp place_key places r.key || has_row L r

-- each member, and each row, is one of the other's
abbrev pub are_members_in : Ledger → Ledger → Bool
are_members_in L M = list_all (is_among M.members) L.members

abbrev pub are_rows_in : Ledger → Ledger → Bool
are_rows_in L M = list_all (has_row M) L.rows

abbrev pub is_within : LedgerBooks → LedgerBooks → Bool
is_within a b = period.eq a.period b.period && are_members_in a.ledger b.ledger && are_rows_in a.ledger b.ledger

abbrev pub are_one : LedgerBooks → LedgerBooks → Bool
are_one a b = is_within a b && is_within b a
