-- A name among texts.
use Rattle.std.proofs.Common.{◌≡◌, ℕ, List, [], ◌∷◌, nat_eq, ◌||◌, Bor, refl, ap}
use Rattle.std.specs.Cmp.Lexicographic.{pointwise}
use Rattle.std.specs.List.{list_any}
use Rattle.rx_diagnostics.specs.KnownKeys.{is_among, texts_of}

-- a name is among texts where one of them has its bytes
pub among-texts : (name : List ℕ) (names : List (Bor (List ℕ)))
    → list_any (λ known. pointwise nat_eq known.now name) names ≡ is_among name (texts_of names)
among-texts name [] = refl
among-texts name (known ∷ names) = ap (λ rest. pointwise nat_eq known.now name || rest) (among-texts name names)
