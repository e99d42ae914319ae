-- One more of the places is gone to, or skipped.
use Rattle.std.proofs.Common.{◌≡◌, ◌≤◌, ◌<◌, ◌++◌, ◌∷◌, [], ℕ, List, true, false, ap, map, refl, arith}
use Rattle.rx_commands.specs.Places.{is_ahead, places_ahead}
use Rattle.rx_commands.specs.declared.replay.replaying.Explained.{Explained}

pub passed_by : (last count place : ℕ) (more : List ℕ) → place ≤ last
    → places_ahead last count more ≡ places_ahead last count (place ∷ more)
passed_by last count place more le = let e : is_ahead last count place ≡ false = grind arith in rw e refl

pub past_the_last : (last count place : ℕ) (more : List ℕ) → count < place
    → places_ahead last count more ≡ places_ahead last count (place ∷ more)
past_the_last last count place more lt = let e : is_ahead last count place ≡ false = grind arith in rw e refl

gone_to : (last count place : ℕ) (more : List ℕ) → last < place → place ≤ count
    → place ∷ places_ahead place count more ≡ places_ahead last count (place ∷ more)
gone_to last count place more lt le = let e : is_ahead last count place ≡ true = grind arith in rw e refl

-- and its record explained after those before it
pub explained_too : (ks : List Explained) (k : Explained) (last count : ℕ) (more : List ℕ) → last < k.place → k.place ≤ count
    → map (λ (x : Explained). x.place) (ks ++ k ∷ []) ++ places_ahead k.place count more
    ≡ map (λ (x : Explained). x.place) ks ++ places_ahead last count (k.place ∷ more)
explained_too [] k last count more lt le = gone_to last count k.place more lt le
explained_too (x ∷ ks) k last count more lt le = ap (λ places. x.place ∷ places) (explained_too ks k last count more lt le)
