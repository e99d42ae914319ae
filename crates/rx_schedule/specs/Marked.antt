-- Plumbing: where each book was named last, and in which wave.
use Rattle.std.specs.Prelude.{◌≡◌, ℕ, suc, ◌-◌, ◌<◌, ◌≤◌, ◌⊎◌, length, Bool, true, false, ◌&&◌}
use Rattle.std.specs.Prelude.{◌||◌, ◌==◌, nat_lt, if◌then◌else◌, List, Option, Some, None}
use Rattle.std.specs.BTreeMap.{BTreeMap, get}
use Rattle.std.specs.List.{fold}
use Rattle.std.specs.declared.cmp.Ordering.{Ordering}
use Rattle.rx_fields.specs.Order.{id_cmp, key_cmp}
use Rattle.rx_fields.specs.declared.key.Key.{Key}
use Rattle.rx_sorted.specs.Ascending.{contains_key, itself}
use Rattle.rx_books_parcel.specs.Footprints.{FootprintParts}
use Rattle.rx_schedule.specs.declared.marks.Mark.{Mark}
use Rattle.rx_schedule.specs.Waves.{IsFirstHighest, IsFirstSharer, footprint_in, member_at, number_in, shares}

-- the mark of no record
abbrev pub no_mark : Mark
no_mark = record { place = 0; wave = 0 }

-- the mark of the higher wave, and of one wave that of the earlier place
abbrev pub better : Mark → Mark → Mark
better a b = if nat_lt a.wave b.wave || ((a.wave == b.wave) && nat_lt b.place a.place) then b else a

abbrev pub better_of : Mark → Option Mark → Mark
better_of a None = a
better_of a (Some b) = better a b

-- the best mark of these names, and of one that is there
abbrev pub best_of : {K : Type 0} → (K → K → Ordering) → BTreeMap K Mark → List K → Mark → Mark
best_of cmp marks names mark = fold (λ a k. better_of a (get cmp marks k)) mark names

-- the name is one of these
abbrev pub has_name : {K : Type 0} → (K → K → Ordering) → List K → K → Bool
has_name cmp names k = contains_key cmp itself names k

-- of the records up to place i, what is said of the last that names k, if there is one
abbrev pub IsLastOf : (ℕ → Bool) → (ℕ → ℕ) → ℕ → Option Mark → Type 0
IsLastOf named number i None = (p : ℕ) → 1 ≤ p → p ≤ i → named p ≡ false
IsLastOf named number i (Some m) =
    (1 ≤ m.place) × (m.place ≤ i) × (named m.place ≡ true) × (m.wave ≡ number m.place)
    × ((p : ℕ) → m.place < p → p ≤ i → named p ≡ false)

-- the map has for each name its last record up to place i
abbrev pub HasLast : {K : Type 0} → (K → K → Ordering) → (ℕ → List K) → (ℕ → ℕ) → ℕ → BTreeMap K Mark → Type 0
HasLast {K} cmp lists number i marks = (k : K) → IsLastOf (λ p. has_name cmp (lists p) k) number i (get cmp marks k)

-- the fill keys and the families of the record at a place
abbrev pub keys_at : List FootprintParts → ℕ → List Key
keys_at fs place = (footprint_in fs place).keys

abbrev pub families_at : List FootprintParts → ℕ → List (List ℕ)
families_at fs place = (footprint_in fs place).families

-- what is known of the first i records: their numbers are waves, each has its first sharer of the wave below noted, and
-- each name its last record
pub record IsScan (fs : List FootprintParts) (i : ℕ) (keys : BTreeMap Key Mark) (families : BTreeMap (List ℕ) Mark)
    (numbers before : List ℕ) (top : Mark) : Type 0 where
  pub within : i ≤ length fs
  pub as_many : length numbers ≡ i
  pub as_many_before : length before ≡ i
  pub last_keys : HasLast key_cmp (keys_at fs) (number_in numbers) i keys
  pub last_families : HasLast id_cmp (families_at fs) (number_in numbers) i families
  pub small : (p : ℕ) → number_in numbers p ≤ p
  pub above : (h j : ℕ) → 1 ≤ h → h < j → j ≤ i → shares fs h j ≡ true → number_in numbers h < number_in numbers j
  pub reached : (j : ℕ) → 1 ≤ j → j ≤ i
      → ((number_in numbers j ≡ 1) × (number_in before j ≡ 0)) ⊎ IsFirstSharer fs numbers j (number_in before j)
  pub highest : ((i ≡ 0) × (top ≡ no_mark)) ⊎ IsFirstHighest numbers top.wave top.place

-- the members of the chain from `left` on are put, and the one before them, the next, is known
pub record IsDown (fs : List FootprintParts) (numbers : List ℕ) (top : Mark) (left place : ℕ) (chain : List ℕ) : Type 0 where
  pub as_many : length chain ≡ top.wave
  pub few : left ≤ top.wave
  pub next : 1 ≤ left → (1 ≤ place) × (place ≤ length fs) × (number_in numbers place ≡ left)
  pub first : left ≡ top.wave → place ≡ top.place
  pub last : left < top.wave → member_at chain (top.wave - 1) ≡ top.place
  pub waves : (k : ℕ) → left ≤ k → k < top.wave → number_in numbers (member_at chain k) ≡ suc k
  pub steps : (k : ℕ) → left ≤ k → suc k < top.wave
      → IsFirstSharer fs numbers (member_at chain (suc k)) (member_at chain k)
  pub link : 1 ≤ left → left < top.wave → IsFirstSharer fs numbers (member_at chain left) place
