-- What holds of a list of results that are all Ok.
use Rattle.std.proofs.Common.{List, [], ◌∷◌, map, Result, Ok, Err}
use Rattle.std.specs.Prelude.{IfOk, MatchResult}
use Rattle.std.specs.List.{AllZip}

-- what holds of each result that is Ok holds of each value
pub AllZip-all_ok : {X Y : Type 0} (E : Type 0) (R : X → Y → Type 0) (xs : List X) (ys : List Y)
    → AllZip (λ x (r : Result Y E). IfOk r (R x)) xs (map Ok ys) → AllZip R xs ys
AllZip-all_ok E R [] [] h = tt
AllZip-all_ok E R [] (y ∷ ys) h = absurd h
AllZip-all_ok E R (x ∷ xs) [] h = absurd h
AllZip-all_ok E R (x ∷ xs) (y ∷ ys) h = (h.0, AllZip-all_ok E R xs ys h.1)

-- what follows where a result is Ok
pub IfOk-matched : {X E : Type 0} (r : Result X E) (P Q : X → Type 0) (S : E → Type 0) → MatchResult r P S
    → ((x : X) → P x → Q x) → IfOk r Q
IfOk-matched (Ok x) P Q S h f = f x h
IfOk-matched (Err e) P Q S h f = tt

-- what follows from two facts where a result is Ok
pub IfOk-both : {X E : Type 0} (r : Result X E) (P Q S : X → Type 0) → IfOk r P → IfOk r Q → ((x : X) → P x → Q x → S x) → IfOk r S
IfOk-both (Ok x) P Q S p q f = f x p q
IfOk-both (Err e) P Q S p q f = tt
