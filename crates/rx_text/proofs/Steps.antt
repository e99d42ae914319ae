-- Steps that may find nothing: what is known where they found something.
use Rattle.std.proofs.Common.{◌≡◌, Bool, true, false, cond, Option, Some, None, refl}
use Rattle.rx_text.specs.Options.{◌>>=◌}

-- the value of a step that found one
pub bind_some : {A B : Type 0} (r : Option A) (f : A → Option B) (y : B) → (r >>= f) ≡ Some y
    → (x : A) × (r ≡ Some x) × (f x ≡ Some y)
bind_some None f y e = absurd cc
bind_some (Some x) f y e = (x, refl, e)

-- a step that finds a value, and what follows it
pub chain : {A B : Type 0} (r : Option A) (f : A → Option B) (x : A) {y : Option B} → r ≡ Some x → f x ≡ y
    → (r >>= f) ≡ y
chain r f x e more = rw e more

-- a test that held
pub guarded : {A : Type 0} (b : Bool) (r : Option A) (y : A) → cond b r None ≡ Some y → (b ≡ true) × (r ≡ Some y)
guarded true r y e = (refl, e)
guarded false r y e = absurd cc

-- a test that failed
pub unguarded : {A : Type 0} (b : Bool) (r : Option A) (y : A) → cond b None r ≡ Some y → (b ≡ false) × (r ≡ Some y)
unguarded true r y e = absurd cc
unguarded false r y e = (refl, e)

abbrev pub found : {A : Type 0} → A → Option A
found x = Some x

pub some_same : {A : Type 0} {x y : A} → found x ≡ found y → x ≡ y
some_same e = cc
