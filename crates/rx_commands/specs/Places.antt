-- Meaning: the records of a batch that are explained on the way, of those at some places.
use Rattle.std.specs.Prelude.{ℕ, ◌&&◌, nat_le, nat_lt, Bool, if◌then◌else◌, List, [], ◌∷◌}

-- the place lies after the last one, and a batch of this many records has it
abbrev pub is_ahead : ℕ → ℕ → ℕ → Bool
is_ahead last count place = nat_lt last place && nat_le place count

-- the places that lie ahead, one after the other
abbrev pub places_ahead : ℕ → ℕ → List ℕ → List ℕ
places_ahead last count [] = []
places_ahead last count (place ∷ more) =
    if is_ahead last count place then place ∷ places_ahead place count more else places_ahead last count more
