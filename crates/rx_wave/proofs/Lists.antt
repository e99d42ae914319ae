-- Laws of lists.
use Rattle.std.proofs.Common.{ℕ, zero, suc, ◌<◌, List, [], ◌∷◌, length, map, arith}
use Rattle.std.specs.List.{All}

-- what holds of each mapped item holds of each item's value
pub All-from_map : {X Y : Type 0} (P : X → Type 0) (f : Y → X) (ys : List Y) → All P (map f ys) → All (λ y. P (f y)) ys
All-from_map P f [] all i d lt = absurd (omega arith)
All-from_map P f (y ∷ ys) all zero d lt = all zero (f d) (omega arith)
All-from_map P f (y ∷ ys) all (suc i) d lt =
    All-from_map P f ys (λ j e less. all (suc j) e (omega arith)) i d (omega arith)

-- a list that isn't empty has an item
pub an_item : {X : Type 0} (xs : List X) (k : ℕ) → k < length xs → X
an_item [] k lt = absurd (omega arith)
an_item (x ∷ xs) k lt = x
