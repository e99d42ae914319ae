-- Plumbing: the tests by which one sees whether all books of a shelf are in and agree.
use Rattle.std.specs.Prelude.{Bool, true, ◌&&◌, ◌||◌, Option, Some, None}
use Rattle.std.specs.List.{list_all}
use Rattle.rx_ledger.specs.declared.row.Row.{Row}
use Rattle.rx_ledger.specs.Ledger.{row_under}
use Rattle.rx_books_family.specs.Books.{Book, OfFamily, OfKey, is_found}
use Rattle.rx_books_family.specs.FamilyBook.{FamilyBook}
use Rattle.rx_books_family.specs.Shelves.{ShelfParts, are_all_in, has_slot, row_held, value_of}

-- the row stands in the value of the book
abbrev pub stands_in : ShelfParts → Book → Row → Bool
stands_in s b r = is_found r (row_under (value_of s b) r.key)

-- in that of its key, and in that of its family
abbrev pub stands : ShelfParts → Row → Bool
stands s r = stands_in s (OfKey r.key) r && stands_in s (OfFamily r.family) r

-- so does the row of a place, and each row of a book, if there is one
abbrev pub row_stands : ShelfParts → Option Row → Bool
row_stands s None = true
row_stands s (Some r) = stands s r

abbrev pub book_stands : ShelfParts → Option FamilyBook → Bool
book_stands s None = true
book_stands s (Some b) = list_all (stands s) b.rows

-- so does a row of the ledger next to them, where its key or its family is not named
abbrev pub is_kept_out : ShelfParts → Row → Bool
is_kept_out s r = has_slot s (OfKey r.key) && has_slot s (OfFamily r.family)

abbrev pub rest_stands : ShelfParts → Row → Bool
rest_stands s r = is_kept_out s r || stands s r

-- all these tests
abbrev pub agree : ShelfParts → Bool
agree s =
    are_all_in s && list_all (λ p. row_stands s (row_held p)) s.keys && list_all (λ p. book_stands s p.held) s.families
    && list_all (rest_stands s) s.rest.rows
