-- Meaning, retraced from the code: place by place, what `take` and `give` do with a shelf. Their clauses on the values of
-- all books, on which are out and on which have a place say the same in other words.
use Rattle.std.specs.Prelude.{ℕ, Bool, ◌&&◌, List, Option, Some, None, if◌then◌else◌, map}
use Rattle.std.specs.List.{flat_map, list_all}
use Rattle.std.specs.Option.{option_and_then, option_to_list}
use Rattle.rx_fields.specs.Order.{id_cmp, key_cmp}
use Rattle.rx_fields.specs.declared.key.Key.{Key}
use Rattle.rx_sorted.specs.Ascending.{contains_key, item_at, itself}
use Rattle.rx_books_family.specs.declared.key_book.KeyBook.{KeyBook}
use Rattle.rx_books_family.specs.Books.{OfFamily, OfKey}
use Rattle.rx_books_family.specs.FamilyBook.{FamilyBook, family_of}
use Rattle.rx_books_parcel.specs.Footprints.{FootprintParts}
use Rattle.rx_books_parcel.specs.Parcels.{ParcelParts, key_of}
use Rattle.rx_books_family.specs.declared.place.KeyPlace.{KeyPlace}
use Rattle.rx_books_family.specs.declared.place.FamilyPlace.{FamilyPlace}
use Rattle.rx_books_family.specs.Shelves.{ShelfParts, is_in, is_out, place_family, place_key, row_held}

-- ---- a parcel is taken

-- each book that is named is in its place
abbrev pub has_all : ShelfParts → FootprintParts → Bool
has_all s F = list_all (λ k. is_in s (OfKey k)) F.keys && list_all (λ f. is_in s (OfFamily f)) F.families

-- a key's book as its place holds it, and a family's book, if its place holds it
abbrev pub held_key : List KeyPlace → Key → KeyBook
held_key places key = record { key = key; row = option_and_then row_held (item_at key_cmp place_key places key) }

abbrev pub held_book : List FamilyPlace → List ℕ → List FamilyBook
held_book places family =
    option_to_list (option_and_then (λ p. p.held) (item_at id_cmp place_family places family))

-- the parcel of the named books
abbrev pub taken_parcel : ShelfParts → FootprintParts → ParcelParts
taken_parcel s F =
    record {
      period = s.period;
      keys = map (held_key s.keys) F.keys;
      families = flat_map (held_book s.families) F.families;
    }

-- the places without the named books
abbrev pub key_taken : List Key → KeyPlace → KeyPlace
key_taken keys p = if contains_key key_cmp itself keys p.key then record p { held = None } else p

abbrev pub family_taken : List (List ℕ) → FamilyPlace → FamilyPlace
family_taken families p = if contains_key id_cmp itself families p.family then record p { held = None } else p

abbrev pub taken_out : ShelfParts → FootprintParts → ShelfParts
taken_out s F =
    record s { keys = map (key_taken F.keys) s.keys; families = map (family_taken F.families) s.families }

-- ---- a parcel is given

-- each book that is named is out
abbrev pub are_out : ShelfParts → FootprintParts → Bool
are_out s F = list_all (λ k. is_out s (OfKey k)) F.keys && list_all (λ f. is_out s (OfFamily f)) F.families

-- a place with the book that is given, if one is
abbrev pub with_row : Option KeyBook → KeyPlace → KeyPlace
with_row None p = p
with_row (Some b) p = record p { held = Some b.row }

abbrev pub with_book : Option FamilyBook → FamilyPlace → FamilyPlace
with_book None p = p
with_book (Some b) p = record p { held = Some b }

abbrev pub key_given : List KeyBook → KeyPlace → KeyPlace
key_given books p = with_row (item_at key_cmp key_of books p.key) p

abbrev pub family_given : List FamilyBook → FamilyPlace → FamilyPlace
family_given books p = with_book (item_at id_cmp family_of books p.family) p

-- the places with the parcel's books
abbrev pub put_back : ShelfParts → ParcelParts → ShelfParts
put_back s parcel =
    record s {
      keys = map (key_given parcel.keys) s.keys;
      families = map (family_given parcel.families) s.families;
    }
