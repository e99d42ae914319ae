-- Plumbing: what a move of books between the shelf and a parcel changes of the shelf.
use Rattle.std.specs.Prelude.{◌≡◌, ◌||◌, false, if◌then◌else◌}
use Rattle.rx_ledger.specs.Ledger.{empty}
use Rattle.rx_books_family.specs.Books.{Book}
use Rattle.rx_books_parcel.specs.Footprints.{FootprintParts, names}
use Rattle.rx_books_parcel.specs.Parcels.{IsParcel, ParcelParts, named_in, values_of}
use Rattle.rx_books_family.specs.Shelves.{ShelfParts, has_slot, is_out, value_of}

-- the same books are on the shelf, and the same are out
pub record IsSameShelf (old new : ShelfParts) : Type 0 where
  pub period : new.period ≡ old.period
  pub beside : new.rest ≡ old.rest
  pub values : (b : Book) → value_of new b ≡ value_of old b
  pub slots : (b : Book) → has_slot new b ≡ has_slot old b
  pub out : (b : Book) → is_out new b ≡ is_out old b

-- the parcel has the footprint's books, which the shelf has no more
pub record IsTaken (old new : ShelfParts) (F : FootprintParts) (p : ParcelParts) : Type 0 where
  pub parcel : IsParcel p
  pub named : named_in p ≡ F
  pub period : p.period ≡ old.period
  pub values : (b : Book) → values_of p b ≡ (if names F b then value_of old b else empty)
  pub shelf_period : new.period ≡ old.period
  pub beside : new.rest ≡ old.rest
  pub left : (b : Book) → value_of new b ≡ (if names F b then empty else value_of old b)
  pub slots : (b : Book) → has_slot new b ≡ has_slot old b
  pub out : (b : Book) → is_out new b ≡ (names F b || is_out old b)

-- the parcel's books are on the shelf, as they are in the parcel
pub record IsGiven (old new : ShelfParts) (p : ParcelParts) : Type 0 where
  pub shelf_period : new.period ≡ old.period
  pub beside : new.rest ≡ old.rest
  pub values : (b : Book) → value_of new b ≡ (if names (named_in p) b then values_of p b else value_of old b)
  pub slots : (b : Book) → has_slot new b ≡ has_slot old b
  pub out : (b : Book) → is_out new b ≡ (if names (named_in p) b then false else is_out old b)
