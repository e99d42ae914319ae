-- Meaning: parcels: the books that a footprint names, with the period that their totals are of.
use Rattle.std.specs.Prelude.{◌≡◌, ℕ, List, [], Option, Some, None, IfSome, map}
use Rattle.std.specs.List.{All}
use Rattle.std.specs.Option.{option_and_then, option_map, option_to_list}
use Rattle.rx_fields.specs.Numbered.{Span}
use Rattle.rx_fields.specs.Order.{id_cmp, key_cmp}
use Rattle.rx_fields.specs.declared.key.Key.{Key}
use Rattle.rx_sorted.specs.Ascending.{IsAscending, item_at, put}
use Rattle.rx_ledger.specs.declared.member.Member.{Member}
use Rattle.rx_ledger.specs.declared.row.Row.{Row}
use Rattle.rx_ledger.specs.Ledger.{Ledger}
use Rattle.rx_ledger.specs.Members.{person_in}
use Rattle.rx_ledger.specs.Sums.{family_deductible_in, out_of_pocket_in}
use Rattle.rx_books_family.specs.declared.key_book.KeyBook.{KeyBook}
use Rattle.rx_books_family.specs.Books.{Book, OfFamily, OfKey}
use Rattle.rx_books_family.specs.FamilyBook.{FamilyBook, IsOwn, book_with_row, book_without_row, deductible_at, family_of}
use Rattle.rx_books_family.specs.FamilyBook.{ledger_of_family}
use Rattle.rx_books_parcel.specs.Footprints.{AreAgreed, FootprintParts, sub}

-- a period, the books of some fill keys and the books of some families
pub record ParcelParts : Type 0 where
  pub period : Span
  pub keys : List KeyBook
  pub families : List FamilyBook

-- what the book of a fill key is found by
abbrev pub key_of : KeyBook → Key
key_of b = b.key

-- a row stands in the book of its own key
abbrev pub HasOwnRow : KeyBook → Type 0
HasOwnRow b = IfSome b.row (λ r. r.key ≡ b.key)

-- what a parcel keeps: its books are in order, one of a name; each has rows of its own, and totals of the period
pub record IsParcel (p : ParcelParts) : Type 0 where
  pub keys_rise : IsAscending key_cmp key_of p.keys
  pub families_rise : IsAscending id_cmp family_of p.families
  pub rows_own : All HasOwnRow p.keys
  pub families_own : All IsOwn p.families
  pub one_period : All (λ b. b.period ≡ p.period) p.families

-- ---- what it holds

-- the fill keys and families whose books it holds
abbrev pub named_in : ParcelParts → FootprintParts
named_in p = record { keys = map key_of p.keys; families = map family_of p.families }

-- the row in a key's book, and a family's book; None where it isn't held
abbrev pub row_at : ParcelParts → Key → Option Row
row_at p key = option_and_then (λ b. b.row) (item_at key_cmp key_of p.keys key)

abbrev pub family_at : ParcelParts → List ℕ → Option FamilyBook
family_at p family = item_at id_cmp family_of p.families family

abbrev pub values_of : ParcelParts → Book → Ledger
values_of p (OfKey key) = record { members = []; rows = option_to_list (row_at p key) }
values_of p (OfFamily family) = ledger_of_family (family_at p family)

-- the ledger of its books only
abbrev pub ledger_in : ParcelParts → Ledger
ledger_in p = sub (named_in p) (values_of p)

-- its books agree
abbrev pub Agrees : ParcelParts → Type 0
Agrees p = AreAgreed (named_in p) (values_of p)

-- ---- what it answers

-- the member of a family with the person code, and the family's rows
abbrev pub member_at : ParcelParts → List ℕ → List ℕ → Option Member
member_at p family person = option_and_then (λ b. person_in b.members person) (family_at p family)

abbrev pub rows_at : ParcelParts → List ℕ → List Row
rows_at p family = (ledger_of_family (family_at p family)).rows

-- the deductible of a listed member, and the totals of a family whose book is held
abbrev pub member_deductible : ParcelParts → List ℕ → List ℕ → Option ℕ
member_deductible p family person = option_and_then (λ b. deductible_at b person) (family_at p family)

abbrev pub pocket_at : ParcelParts → List ℕ → Option ℕ
pocket_at p family = option_map (λ b. out_of_pocket_in b.period b.rows) (family_at p family)

abbrev pub family_deductible_at : ParcelParts → List ℕ → Option ℕ
family_deductible_at p family = option_map (λ b. family_deductible_in b.period b.rows) (family_at p family)

-- ---- what changes it

-- the book of a key, with this row or none
abbrev pub with_key_book : ParcelParts → Key → Option Row → List KeyBook
with_key_book p key row = put key_cmp key_of p.keys (record { key = key; row = row })

-- the families' books, with one of them written anew
abbrev pub with_family_book : ParcelParts → Option FamilyBook → List FamilyBook
with_family_book p None = p.families
with_family_book p (Some b) = put id_cmp family_of p.families b

-- the parcel with one more row, in the books of its key and its family
abbrev pub parcel_with_row : ParcelParts → Row → ParcelParts
parcel_with_row p r =
    record p {
      keys = with_key_book p r.key (Some r);
      families = with_family_book p (option_map (λ b. book_with_row b r) (family_at p r.family));
    }

-- the family's book of a row, without the row
abbrev pub family_without : ParcelParts → Option Row → Key → Option FamilyBook
family_without p None key = None
family_without p (Some r) key = option_map (λ b. book_without_row b key) (family_at p r.family)

-- the parcel without the row under a fill key, which goes out of both books
abbrev pub parcel_without_row : ParcelParts → Key → ParcelParts
parcel_without_row p key =
    record p {
      keys = with_key_book p key None;
      families = with_family_book p (family_without p (row_at p key) key);
    }
