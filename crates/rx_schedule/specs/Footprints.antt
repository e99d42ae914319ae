-- Meaning: the footprint of a record: the books that it names, read off the opening ledger and the records before it.
use Rattle.std.specs.Prelude.{ℕ, ◌-◌, [], ◌∷◌, ◌++◌, List, None, Option, Some, if◌then◌else◌, length, map, slice_index_or, take}
use Rattle.std.specs.List.{flat_map, range_with_len}
use Rattle.std.specs.Ordering.{is_eq}
use Rattle.std.specs.declared.cmp.Ordering.{Ordering}
use Rattle.rx_fields.specs.Order.{id_cmp, key_cmp}
use Rattle.rx_fields.specs.declared.key.Key.{Key}
use Rattle.rx_sorted.specs.Ascending.{itself, put_all}
use Rattle.rx_d0_values.specs.declared.transaction.Transaction.{Transaction}
use Rattle.rx_d0_values.specs.declared.transaction.Transaction.TheVariants.{Bill, Reverse, Faulty}
use Rattle.rx_d0_values.specs.declared.transmission.Body.{Body}
use Rattle.rx_d0_values.specs.declared.transmission.Body.TheVariants.{Rejected, Heard}
use Rattle.rx_d0_values.specs.declared.transmission.Heard.{Heard as HeardRecord}
use Rattle.rx_d0_values.specs.declared.transmission.Transmission.{Transmission}
use Rattle.rx_ledger.specs.declared.row.Row.{Row}
use Rattle.rx_ledger.specs.Ledger.{Ledger, row_under}
use Rattle.rx_ledger.specs.Named.{key_in}
use Rattle.rx_books_parcel.specs.Footprints.{FootprintParts}

-- each of these once, in ascending order
abbrev pub in_order : {K : Type 0} → (K → K → Ordering) → List K → List K
in_order cmp xs = put_all cmp itself [] xs

-- the families that bill the fill key in a record
abbrev pub billed_by : HeardRecord → Key → Transaction → List (List ℕ)
billed_by h key (Bill b) = if is_eq (key_cmp (key_in h b.reference) key) then b.family ∷ [] else []
billed_by h key (Reverse v) = []
billed_by h key (Faulty f) = []

abbrev pub billers_in : Key → Body → List (List ℕ)
billers_in key (Rejected r) = []
billers_in key (Heard h) = flat_map (billed_by h key) h.list

-- the families that billed the fill key in these records
abbrev pub billers : Key → List Transmission → List (List ℕ)
billers key records = flat_map (λ t. billers_in key t.body) records

-- the family of a row, if there is one
abbrev pub family_of : Option Row → List (List ℕ)
family_of None = []
family_of (Some r) = r.family ∷ []

-- whose the row under a fill key may be: of the opening row's family, and of each earlier biller
abbrev pub holders : Ledger → List Transmission → Key → List (List ℕ)
holders L earlier key = family_of (row_under L key) ++ billers key earlier

-- the fill key that a transaction names, and the families
abbrev pub key_named : HeardRecord → Transaction → List Key
key_named h (Bill b) = key_in h b.reference ∷ []
key_named h (Reverse v) = key_in h v.reference ∷ []
key_named h (Faulty f) = []

abbrev pub families_named : Ledger → List Transmission → HeardRecord → Transaction → List (List ℕ)
families_named L earlier h (Bill b) = b.family ∷ []
families_named L earlier h (Reverse v) = holders L earlier (key_in h v.reference)
families_named L earlier h (Faulty f) = []

-- the fill keys and the families that a record names; a rejected header names none
abbrev pub keys_in : Body → List Key
keys_in (Rejected r) = []
keys_in (Heard h) = flat_map (key_named h) h.list

abbrev pub families_in : Ledger → List Transmission → Body → List (List ℕ)
families_in L earlier (Rejected r) = []
families_in L earlier (Heard h) = flat_map (families_named L earlier h) h.list

-- the footprint of a record after the earlier ones, over the opening ledger
abbrev pub footprint_of : Ledger → List Transmission → Body → FootprintParts
footprint_of L earlier body =
    record { keys = in_order key_cmp (keys_in body); families = in_order id_cmp (families_in L earlier body) }

-- a rejected header without codes, which is read if there is no record
abbrev pub no_record : Transmission
no_record =
    record {
      echo = record { version = []; code = []; qualifier = []; provider = []; date = [] };
      body = Rejected (record { codes = []; groups = 0 });
    }

-- the record at a place, from 1
abbrev pub record_at : List Transmission → ℕ → Transmission
record_at records place = slice_index_or records (place - 1) no_record

-- the footprint of the record at a place
abbrev pub footprint_at : Ledger → List Transmission → ℕ → FootprintParts
footprint_at L records place = footprint_of L (take (place - 1) records) (record_at records place).body

-- the footprint of each record, in file order
abbrev pub footprints_of : Ledger → List Transmission → List FootprintParts
footprints_of L records = map (footprint_at L records) (range_with_len 1 (length records))
