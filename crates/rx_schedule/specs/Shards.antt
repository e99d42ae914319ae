-- Meaning: some records of a batch that have books of their own, what they make of these books, and of the whole opening.
use Rattle.std.specs.Prelude.{◌≡◌, ℕ, zero, suc, ◌≤◌, Bool, true, false, if◌then◌else◌, List, [], ◌∷◌, ◌++◌, ◌==◌, length, slice_index_or}
use Rattle.std.specs.List.{Contains, flat_map}
use Rattle.rx_fields.specs.Order.{id_cmp, key_cmp}
use Rattle.rx_fields.specs.Numbered.{LotParts}
use Rattle.rx_fields.specs.declared.key.Key.{Key}
use Rattle.rx_d0_values.specs.declared.reply.Reply.{Reply}
use Rattle.rx_d0_values.specs.declared.transmission.Transmission.{Transmission}
use Rattle.rx_ledger.specs.Fold.{ledger_after, reply_to}
use Rattle.rx_ledger.specs.Ledger.{Ledger, row_under}
use Rattle.rx_ledger.specs.Plan.{Plan}
use Rattle.rx_books_family.specs.Books.{Book, IsInOrder}
use Rattle.rx_books_parcel.specs.Footprints.{FootprintParts, names}
use Rattle.rx_schedule.specs.Footprints.{footprint_at, in_order, keys_in, record_at}

-- those of the places 1 to n that are chosen, in file order
abbrev pub places_of : (ℕ → Bool) → ℕ → List ℕ
places_of chosen zero = []
places_of chosen (suc n) = if chosen (suc n) then places_of chosen n ++ suc n ∷ [] else places_of chosen n

-- the records at these places, one after another
module _ (lot : LotParts) (plan : Plan) (records : List Transmission) where
  abbrev pub ledger_of : List ℕ → Ledger → Ledger
  ledger_of [] L = L
  ledger_of (i ∷ rest) L = ledger_of rest (ledger_after lot plan i (record_at records i) L)

  abbrev pub replies_of : List ℕ → Ledger → List Reply
  replies_of [] L = []
  replies_of (i ∷ rest) L =
      reply_to lot plan i (record_at records i) L ∷ replies_of rest (ledger_after lot plan i (record_at records i) L)

-- these records name none but the footprint's books, and no other record names one of them
pub record AreApart (L : Ledger) (records : List Transmission) (mine : ℕ → Bool) (F : FootprintParts) : Type 0 where
  pub inside : (place : ℕ) → 1 ≤ place → place ≤ length records → mine place ≡ true → (b : Book)
      → names (footprint_at L records place) b ≡ true → names F b ≡ true
  pub outside : (place : ℕ) → 1 ≤ place → place ≤ length records → mine place ≡ false → (b : Book)
      → names (footprint_at L records place) b ≡ true → names F b ≡ false

-- no record names the book
abbrev pub IsUntouched : Ledger → List Transmission → Book → Type 0
IsUntouched L records b =
    (place : ℕ) → 1 ≤ place → place ≤ length records → names (footprint_at L records place) b ≡ false

-- ---- shards

-- those of the places 1 to n whose footprints name a book in common are in one shard
abbrev pub IsGrouping : (ℕ → FootprintParts) → ℕ → (ℕ → ℕ) → Type 0
IsGrouping footprint n shard = (i j : ℕ) → 1 ≤ i → i ≤ n → 1 ≤ j → j ≤ n → (b : Book)
    → names (footprint i) b ≡ true → names (footprint j) b ≡ true → shard i ≡ shard j

-- the place is in the shard
abbrev pub is_of : (ℕ → ℕ) → ℕ → ℕ → Bool
is_of shard k i = shard i == k

-- the list of a number, counted from 0
abbrev pub list_at : List (List ℕ) → ℕ → List ℕ
list_at lists k = slice_index_or lists k []

-- the books of the footprints at these places
abbrev pub union : (ℕ → FootprintParts) → List ℕ → FootprintParts
union footprint places =
    record {
      keys = in_order key_cmp (flat_map (λ i. (footprint i).keys) places);
      families = in_order id_cmp (flat_map (λ i. (footprint i).families) places);
    }

-- the books of the shard: those of the footprints at its places, of the places 1 to n
abbrev pub books_of_shard : (ℕ → FootprintParts) → ℕ → (ℕ → ℕ) → ℕ → FootprintParts
books_of_shard footprint n shard k = union footprint (places_of (is_of shard k) n)

-- the fill keys that the records at these places name
abbrev pub keys_at : List Transmission → List ℕ → List Key
keys_at records places = flat_map (λ i. keys_in (record_at records i).body) places

-- a ledger with the opening's members that has under each fill key what the shard which names it leaves there, where its
-- records go on the whole opening ledger, and the opening row where no shard names it
pub record AreJoined (lot : LotParts) (plan : Plan) (L : Ledger) (records : List Transmission) (shard : ℕ → ℕ) (M : Ledger)
    : Type 0 where
  pub in_order : IsInOrder M
  pub members : M.members ≡ L.members
  pub shards : (k : ℕ) (key : Key) → Contains (keys_at records (places_of (is_of shard k) (length records))) key
      → row_under M key ≡ row_under (ledger_of lot plan records (places_of (is_of shard k) (length records)) L) key
  pub others : (key : Key)
      → ((k : ℕ) → ¬ Contains (keys_at records (places_of (is_of shard k) (length records))) key)
      → row_under M key ≡ row_under L key
