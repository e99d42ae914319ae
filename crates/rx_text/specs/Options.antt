-- Meaning: steps that may find nothing.
use Rattle.std.specs.Prelude.{Option, Some, None}

-- the first step, and where it finds a value the next
infixl 10 ◌>>=◌
abbrev pub ◌>>=◌ : {A B : Type 0} → Option A → (A → Option B) → Option B
None >>= f = None
(Some x) >>= f = f x
