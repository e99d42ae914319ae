-- Meaning, retraced from the code: place by place, the shelf of opened books with all of them in. The clauses of `of` on
-- the values of all books, on which have a place, and that none is out say the same in other words.
use Rattle.std.specs.Prelude.{ℕ, Bool, List, Some, map}
use Rattle.std.specs.List.{list_any}
use Rattle.rx_fields.specs.Order.{id_cmp, key_cmp}
use Rattle.rx_fields.specs.declared.key.Key.{Key}
use Rattle.rx_sorted.specs.Joined.{joined}
use Rattle.rx_ledger.specs.Ledger.{members_of, row_under, rows_of}
use Rattle.rx_books_family.specs.Books.{Book}
use Rattle.rx_books_family.specs.FamilyBook.{FamilyBook}
use Rattle.rx_sorted.specs.Ascending.{itself}
use Rattle.rx_books_parcel.specs.Footprints.{FootprintParts, names}
use Rattle.rx_books_store.specs.LedgerBooks.{LedgerBooks}
use Rattle.rx_books_family.specs.declared.place.KeyPlace.{KeyPlace}
use Rattle.rx_books_family.specs.declared.place.FamilyPlace.{FamilyPlace}
use Rattle.rx_books_family.specs.Shelves.{ShelfParts}

-- the keys, and the families, of all footprints: each once, ascending
abbrev pub all_keys : List FootprintParts → List Key
all_keys footprints = joined key_cmp itself (map (λ F. F.keys) footprints)

abbrev pub all_families : List FootprintParts → List (List ℕ)
all_families footprints = joined id_cmp itself (map (λ F. F.families) footprints)

-- one of them names the book
abbrev pub is_named_by : List FootprintParts → Book → Bool
is_named_by footprints b = list_any (λ F. names F b) footprints

-- the book of a family: its members and rows
abbrev pub opened_book : LedgerBooks → List ℕ → FamilyBook
opened_book b family =
    record {
      family = family;
      period = b.period;
      members = members_of b.ledger family;
      rows = rows_of b.ledger family;
    }

-- each book in its place
abbrev pub full_key_place : LedgerBooks → Key → KeyPlace
full_key_place b key = record { key = key; held = Some (row_under b.ledger key) }

abbrev pub filled_place : FamilyBook → FamilyPlace
filled_place book = record { family = book.family; held = Some book }

abbrev pub shelf_of : LedgerBooks → List FootprintParts → ShelfParts
shelf_of b footprints =
    record {
      period = b.period;
      rest = b.ledger;
      keys = map (full_key_place b) (all_keys footprints);
      families = map (λ f. filled_place (opened_book b f)) (all_families footprints);
    }
