-- Meaning: waves: numbers of the records, by which those that share no book go together. Places count from 1.
use Rattle.std.specs.Prelude.{◌≡◌, ◌≢◌, ℕ, suc, ◌-◌, ◌<◌, ◌≤◌, ◌⊎◌, Bool, true, List, [], ◌∷◌, length, slice_index_or}
use Rattle.std.specs.List.{list_any}
use Rattle.rx_books_parcel.specs.Footprints.{FootprintParts, books_in, names}

-- two footprints meet: some book is named by both
abbrev pub meet : FootprintParts → FootprintParts → Bool
meet F G = list_any (names G) (books_in F)

-- a footprint without books
abbrev pub nothing : FootprintParts
nothing = record { keys = []; families = [] }

-- the footprint at a place, and the number
abbrev pub footprint_in : List FootprintParts → ℕ → FootprintParts
footprint_in fs place = slice_index_or (nothing ∷ fs) place nothing

abbrev pub number_in : List ℕ → ℕ → ℕ
number_in numbers place = slice_index_or (0 ∷ numbers) place 0

-- the records at two places share: their footprints meet
abbrev pub shares : List FootprintParts → ℕ → ℕ → Bool
shares fs i j = meet (footprint_in fs i) (footprint_in fs j)

-- a record's wave is 1 where it shares with no earlier record, else one more than the highest wave of those that it
-- shares with: it exceeds all of these, and one of them is the next below it
pub record AreWaves (fs : List FootprintParts) (numbers : List ℕ) : Type 0 where
  pub one_each : length numbers ≡ length fs
  pub above : (i j : ℕ) → 1 ≤ i → i < j → j ≤ length fs → shares fs i j ≡ true
      → number_in numbers i < number_in numbers j
  pub reached : (j : ℕ) → 1 ≤ j → j ≤ length fs → (number_in numbers j ≡ 1)
      ⊎ ((i : ℕ) × (1 ≤ i) × (i < j) × (shares fs i j ≡ true) × (number_in numbers j ≡ suc (number_in numbers i)))

-- the record at place i is the first before place j that shares with it and whose wave is one less
pub record IsFirstSharer (fs : List FootprintParts) (numbers : List ℕ) (j i : ℕ) : Type 0 where
  pub from_one : 1 ≤ i
  pub earlier : i < j
  pub sharer : shares fs i j ≡ true
  pub one_less : number_in numbers j ≡ suc (number_in numbers i)
  pub first : (h : ℕ) → 1 ≤ h → h < i → shares fs h j ≡ true → number_in numbers j ≢ suc (number_in numbers h)

-- the place is that of the first record with this wave, where no wave is higher
pub record IsFirstHighest (numbers : List ℕ) (count place : ℕ) : Type 0 where
  pub from_one : 1 ≤ place
  pub there : place ≤ length numbers
  pub own : number_in numbers place ≡ count
  pub highest : (i : ℕ) → number_in numbers i ≤ count
  pub first : (i : ℕ) → i < place → number_in numbers i < count

-- the place of a member of a chain, counted from 0
abbrev pub member_at : List ℕ → ℕ → ℕ
member_at chain k = slice_index_or chain k 0

-- the chain ends with the first record of the highest wave, and before each member stands the first earlier record that
-- it shares with and whose wave is one less; so it has a member of each wave
pub record IsChain (fs : List FootprintParts) (numbers : List ℕ) (count : ℕ) (chain : List ℕ) : Type 0 where
  pub whole : length chain ≡ count
  pub ends : 1 ≤ length fs → IsFirstHighest numbers count (member_at chain (count - 1))
  pub waves : (k : ℕ) → k < count → number_in numbers (member_at chain k) ≡ suc k
  pub steps : (k : ℕ) → suc k < count → IsFirstSharer fs numbers (member_at chain (suc k)) (member_at chain k)
  pub none : length fs ≡ 0 → count ≡ 0

-- ---- sharing chains

-- places of which each shares with the next, which is later
pub record IsSharingChain (fs : List FootprintParts) (chain : List ℕ) : Type 0 where
  pub there : (k : ℕ) → k < length chain → (1 ≤ member_at chain k) × (member_at chain k ≤ length fs)
  pub steps : (k : ℕ) → suc k < length chain → (member_at chain k < member_at chain (suc k))
      × (shares fs (member_at chain k) (member_at chain (suc k)) ≡ true)

-- the chain's last place is this one
abbrev pub EndsAt : List ℕ → ℕ → Type 0
EndsAt chain place = (1 ≤ length chain) × (member_at chain (length chain - 1) ≡ place)

-- each number is the length of the longest sharing chain that ends at its place
pub record AreLongest (fs : List FootprintParts) (numbers : List ℕ) : Type 0 where
  pub longest : (chain : List ℕ) → IsSharingChain fs chain → (place : ℕ) → EndsAt chain place
      → length chain ≤ number_in numbers place
  pub reached : (place : ℕ) → 1 ≤ place → place ≤ length fs
      → (chain : List ℕ) × IsSharingChain fs chain × EndsAt chain place × (length chain ≡ number_in numbers place)

-- a valid numbering from 1: each number exceeds those of the earlier records that its record shares with
pub record IsValidNumbering (fs : List FootprintParts) (number : ℕ → ℕ) : Type 0 where
  pub from_one : (i : ℕ) → 1 ≤ i → i ≤ length fs → 1 ≤ number i
  pub above : (i j : ℕ) → 1 ≤ i → i < j → j ≤ length fs → shares fs i j ≡ true → number i < number j
