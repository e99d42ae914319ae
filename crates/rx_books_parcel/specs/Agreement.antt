-- Plumbing: the tests by which one sees whether the books of a parcel agree.
use Rattle.std.specs.Prelude.{Bool, true, not, ◌&&◌, ◌||◌, Option, Some, None}
use Rattle.std.specs.List.{list_all}
use Rattle.rx_ledger.specs.declared.row.Row.{Row}
use Rattle.rx_ledger.specs.Ledger.{is_taken, row_under}
use Rattle.rx_ledger.specs.Members.{is_same}
use Rattle.rx_books_family.specs.Books.{OfKey, is_found}
use Rattle.rx_books_family.specs.FamilyBook.{FamilyBook, own_ledger}
use Rattle.rx_books_parcel.specs.Footprints.{names}
use Rattle.rx_books_parcel.specs.Parcels.{ParcelParts, family_at, named_in, row_at}

-- the family's book has the row, where it is held
abbrev pub is_in_book : Row → Option FamilyBook → Bool
is_in_book r None = true
is_in_book r (Some b) = is_found r (row_under (own_ledger b) r.key)

-- so has the book of the row's own family, if there is a row
abbrev pub is_in_family : ParcelParts → Option Row → Bool
is_in_family p None = true
is_in_family p (Some r) = is_in_book r (family_at p r.family)

-- a row of a family stands under its key, where the key's book is held
abbrev pub is_under_key : ParcelParts → Row → Bool
is_under_key p r = not (names (named_in p) (OfKey r.key)) || is_found r (row_at p r.key)

abbrev pub are_under_keys : ParcelParts → FamilyBook → Bool
are_under_keys p b = list_all (is_under_key p) b.rows

-- two families have no row under one key
abbrev pub are_apart : FamilyBook → FamilyBook → Bool
are_apart b c = is_same b.family c.family || list_all (λ r. not (is_taken (own_ledger c) r.key)) b.rows

-- all these tests
abbrev pub agree : ParcelParts → Bool
agree p =
    list_all (λ s. is_in_family p s.row) p.keys && list_all (are_under_keys p) p.families
    && list_all (λ b. list_all (are_apart b) p.families) p.families
