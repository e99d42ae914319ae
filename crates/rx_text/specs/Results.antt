-- Meaning: steps that may have a fault.
use Rattle.std.specs.Prelude.{Result, Ok, Err}

-- the first step, and where it has no fault the next
infixl 10 ◌>>=◌
abbrev pub ◌>>=◌ : {A B F : Type 0} → Result A F → (A → Result B F) → Result B F
(Ok x) >>= f = f x
(Err fault) >>= f = Err fault
