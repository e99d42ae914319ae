-- Plumbing: the books that the records of a batch mention, by names: equal books have equal names.
use Rattle.std.specs.Prelude.{◌≡◌, ◌≤◌, ℕ, zero, suc, ◌+◌, ◌*◌, ◌/◌, ◌%◌, ◌^◌, List, [], ◌∷◌, ◌++◌, drop, length, slice_index_or, take}
use Rattle.std.specs.Prelude.{Option, Some, None}
use Rattle.std.specs.Int.{from_be_bytes, w64}
use Rattle.std.specs.List.{Contains, flat_map, fold}
use Rattle.rx_fields.specs.declared.key.Key.{Key}
use Rattle.rx_fields.specs.Calendar.{Civil}
use Rattle.rx_d0_values.specs.declared.transaction.Transaction.{Transaction}
use Rattle.rx_d0_values.specs.declared.transaction.Transaction.TheVariants.{Bill, Reverse, Faulty}
use Rattle.rx_d0_values.specs.declared.transmission.Body.{Body}
use Rattle.rx_d0_values.specs.declared.transmission.Body.TheVariants.{Rejected, Heard}
use Rattle.rx_d0_values.specs.declared.transmission.Heard.{Heard as HeardRecord}
use Rattle.rx_d0_values.specs.declared.transmission.Transmission.{Transmission}
use Rattle.rx_ledger.specs.declared.row.Row.{Row}
use Rattle.rx_ledger.specs.Ledger.{Ledger, row_under}
use Rattle.rx_ledger.specs.Named.{key_in}
use Rattle.rx_schedule.specs.Footprints.{record_at}
use Rattle.rx_schedule.specs.declared.mentions.Mention.{Mention}
use Rattle.rx_schedule.specs.declared.mentions.Reversed.{Reversed}

-- ---- names

-- the name with one more number in it
abbrev pub with_number : ℕ → ℕ → ℕ
with_number name number = ((name * 11400714819323198485) % 2 ^ 64 + number) % 2 ^ 64

-- the name with these bytes too: this many words of eight bytes, and the bytes after them
abbrev pub with_words : ℕ → ℕ → List ℕ → ℕ
with_words zero name bytes = fold with_number name bytes
with_words (suc n) name bytes = with_words n (with_number name (from_be_bytes w64 (take 8 bytes))) (drop 8 bytes)

abbrev pub with_bytes : ℕ → List ℕ → ℕ
with_bytes name bytes = with_words (length bytes / 8) name bytes

-- the upper half of a name, once more mixed
abbrev pub half_of : ℕ → ℕ
half_of name = with_number name 0 / 2 ^ 32

-- the name of a family
abbrev pub name_of_family : List ℕ → ℕ
name_of_family family = half_of (with_bytes 0 family)

-- the name of a fill key
abbrev pub name_of_day : List ℕ → Civil → ℕ
name_of_day provider date =
    with_number (with_number (with_number (with_bytes 1 provider) date.year) date.month) date.day

abbrev pub name_of_key : Key → ℕ
name_of_key key = half_of (with_number (name_of_day key.provider key.date) key.reference)

-- ---- mentions

-- the record at a place, counted from 0, mentions a book of this name
abbrev pub mention : ℕ → ℕ → Mention
mention at name = record { name = name; at = at }

-- what a transaction mentions without the books: its fill key, and the family that it bills
abbrev pub named_by : ℕ → HeardRecord → Transaction → List Mention
named_by at h (Bill b) =
    mention at (name_of_family b.family) ∷ mention at (name_of_key (key_in h b.reference)) ∷ []
named_by at h (Reverse v) = mention at (name_of_key (key_in h v.reference)) ∷ []
named_by at h (Faulty f) = []

-- the fill key that it reverses
abbrev pub reversed_by : ℕ → HeardRecord → Transaction → List Reversed
reversed_by at h (Bill b) = []
reversed_by at h (Reverse v) = record { key = key_in h v.reference; at = at } ∷ []
reversed_by at h (Faulty f) = []

-- the same of a record
abbrev pub named_in : ℕ → Body → List Mention
named_in at (Rejected r) = []
named_in at (Heard h) = flat_map (named_by at h) h.list

abbrev pub reversed_in : ℕ → Body → List Reversed
reversed_in at (Rejected r) = []
reversed_in at (Heard h) = flat_map (reversed_by at h) h.list

-- and of the first records
abbrev pub named_of : List Transmission → ℕ → List Mention
named_of records zero = []
named_of records (suc n) = named_of records n ++ named_in n (record_at records (suc n)).body

abbrev pub reversed_of : List Transmission → ℕ → List Reversed
reversed_of records zero = []
reversed_of records (suc n) = reversed_of records n ++ reversed_in n (record_at records (suc n)).body

-- the family of a row, if there is one
abbrev pub mentions_of_row : ℕ → Option Row → List Mention
mentions_of_row at None = []
mentions_of_row at (Some r) = mention at (name_of_family r.family) ∷ []

-- those of the opening rows under reversed keys
abbrev pub holders_of : Ledger → List Reversed → List Mention
holders_of L reversed = flat_map (λ r. mentions_of_row r.at (row_under L r.key)) reversed

-- what the first records mention
abbrev pub mentions_of : Ledger → List Transmission → ℕ → List Mention
mentions_of L records n = named_of records n ++ holders_of L (reversed_of records n)

-- ---- records that mention one book are together

-- the number of the record that has the mention
abbrev pub number_of_mention : List ℕ → Mention → ℕ
number_of_mention numbers m = slice_index_or numbers m.at 0

-- mentions of one name are of records with one number
abbrev pub AreTied : List ℕ → List Mention → Type 0
AreTied numbers mentions = (a b : Mention) → Contains mentions a → Contains mentions b → a.name ≡ b.name
    → number_of_mention numbers a ≡ number_of_mention numbers b

-- names don't descend, and where they are the same the numbers are
pub record MayFollow (numbers : List ℕ) (before next : Mention) : Type 0 where
  pub rise : before.name ≤ next.name
  pub same : before.name ≡ next.name → number_of_mention numbers before ≡ number_of_mention numbers next
