-- Meaning: footprints: which books a record works on, and the ledger of these books only.
use Rattle.std.specs.Prelude.{◌≡◌, ℕ, Bool, true, ◌&&◌, if◌then◌else◌, List, ◌++◌, map, Option, Some, None}
use Rattle.std.specs.List.{Contains, list_all}
use Rattle.std.specs.Ordering.{is_eq}
use Rattle.rx_fields.specs.Order.{id_cmp, key_cmp}
use Rattle.rx_fields.specs.declared.key.Key.{Key}
use Rattle.rx_sorted.specs.Ascending.{IsAscending, contains_key, itself}
use Rattle.rx_sorted.specs.Joined.{joined}
use Rattle.rx_d0_values.specs.declared.transaction.Transaction.{Transaction}
use Rattle.rx_d0_values.specs.declared.transaction.Transaction.TheVariants.{Bill, Reverse, Faulty}
use Rattle.rx_d0_values.specs.declared.transmission.Body.{Body}
use Rattle.rx_d0_values.specs.declared.transmission.Body.TheVariants.{Rejected, Heard}
use Rattle.rx_d0_values.specs.declared.transmission.Heard.{Heard as HeardRecord}
use Rattle.rx_d0_values.specs.declared.transmission.Transmission.{Transmission}
use Rattle.rx_ledger.specs.declared.row.Row.{Row}
use Rattle.rx_ledger.specs.Ledger.{Ledger, empty, row_under}
use Rattle.rx_ledger.specs.Members.{member_cmp, member_key}
use Rattle.rx_ledger.specs.Named.{key_in}
use Rattle.rx_ledger.specs.Rows.{row_key}
use Rattle.rx_books_family.specs.Books.{Book, OfFamily, OfKey, book, has_row}

-- fill keys and families
pub record FootprintParts : Type 0 where
  pub keys : List Key
  pub families : List (List ℕ)

-- both lists ascend, without repeats
pub record IsFootprint (F : FootprintParts) : Type 0 where
  pub keys_rise : IsAscending key_cmp itself F.keys
  pub families_rise : IsAscending id_cmp itself F.families

-- the books of its keys, then those of its families
abbrev pub books_in : FootprintParts → List Book
books_in F = map OfKey F.keys ++ map OfFamily F.families

-- the book is one of its books
abbrev pub names : FootprintParts → Book → Bool
names F (OfKey k) = contains_key key_cmp itself F.keys k
names F (OfFamily f) = contains_key id_cmp itself F.families f

-- ---- the ledger of some books only

-- the values of the books that it names; any other book is empty
abbrev pub cut : FootprintParts → Ledger → Book → Ledger
cut F L b = if names F b then book b L else empty

-- the members and rows of all its books' values
abbrev pub sub : FootprintParts → (Book → Ledger) → Ledger
sub F v =
    record {
      members = joined member_cmp member_key (map (λ b. (v b).members) (books_in F));
      rows = joined key_cmp row_key (map (λ b. (v b).rows) (books_in F));
    }

-- the values agree: no two different rows have one key, and a row stands in the value of each named book that it is of
pub record AreAgreed (F : FootprintParts) (v : Book → Ledger) : Type 0 where
  pub one : (b c : Book) (r s : Row) → names F b ≡ true → names F c ≡ true → Contains (v b).rows r
      → Contains (v c).rows s → is_eq (key_cmp r.key s.key) ≡ true → r ≡ s
  pub everywhere : (b c : Book) (r : Row) → names F b ≡ true → names F c ≡ true → Contains (v b).rows r
      → has_row c r ≡ true → Contains (v c).rows r

-- ---- the books of a record

-- it names the family of the row, if there is one
abbrev pub names_holder : FootprintParts → Option Row → Bool
names_holder F None = true
names_holder F (Some r) = names F (OfFamily r.family)

-- it names the books of a transaction: the key, and the family that is billed or that of the row under a reversed key
abbrev pub fits_one : FootprintParts → HeardRecord → Ledger → Transaction → Bool
fits_one F h L (Bill b) = names F (OfKey (key_in h b.reference)) && names F (OfFamily b.family)
fits_one F h L (Reverse v) =
    names F (OfKey (key_in h v.reference)) && names_holder F (row_under L (key_in h v.reference))
fits_one F h L (Faulty f) = true

-- of each transaction of the record; a rejected header has none
abbrev pub fits_body : FootprintParts → Ledger → Body → Bool
fits_body F L (Rejected r) = true
fits_body F L (Heard h) = list_all (fits_one F h L) h.list

abbrev pub fits : FootprintParts → Transmission → Ledger → Bool
fits F t L = fits_body F L t.body
