-- Plumbing: the footprints of records, put together again from which record names what.
use Rattle.std.specs.Prelude.{ℕ, ◌≤◌, ◌==◌, List, length, map}
use Rattle.std.specs.List.{filter, range_with_len}
use Rattle.rx_fields.specs.declared.key.Key.{Key}
use Rattle.rx_books_parcel.specs.Footprints.{FootprintParts}

-- the names that are used at a place
abbrev pub names_at : {K : Type 0} → List (K × ℕ) → ℕ → List K
names_at uses place = map (λ u. u.0) (filter (λ u. u.1 == place) uses)

-- the footprints of this many records
abbrev pub footprints_used : ℕ → List (Key × ℕ) → List (List ℕ × ℕ) → List FootprintParts
footprints_used count keys families =
    map (λ place. record { keys = names_at keys place; families = names_at families place }) (range_with_len 1 count)

-- names are used at the places of these records only
pub record AreWithin {K : Type 0} (count : ℕ) (uses : List (K × ℕ)) : Type 0 where
  pub places : (p : ℕ) → 1 ≤ length (names_at uses p) → (1 ≤ p) × (p ≤ count)
