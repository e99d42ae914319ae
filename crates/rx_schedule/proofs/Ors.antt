-- Tests joined by "or".
use Rattle.std.proofs.Common.{◌≡◌, true, false, Bool, ◌||◌, refl}

pub asked_twice : (a b : Bool) → a || b ≡ a || (a || b)
asked_twice true b = refl
asked_twice false b = refl

pub turned : (a b c : Bool) → a || (b || c) ≡ b || (a || c)
turned true true c = refl
turned true false c = refl
turned false true c = refl
turned false false c = refl

pub grouped : (a b c : Bool) → (a || b) || c ≡ a || (b || c)
grouped true b c = refl
grouped false b c = refl

pub or_false : (a : Bool) → a || false ≡ a
or_false true = refl
or_false false = refl

pub swapped : (a b : Bool) → a || b ≡ b || a
swapped true true = refl
swapped true false = refl
swapped false true = refl
swapped false false = refl
