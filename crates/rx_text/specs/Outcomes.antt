-- Meaning: what a call answers that may run out of memory, whatever its faults are; `wants` says which of them is out of memory.
use Rattle.std.specs.Prelude.{◌≡◌, ℕ, Bool, true, false, List, ◌++◌, Result, Ok, Err, MatchResult}

-- the fact, unless it is excused
abbrev pub Unless : Bool → Type 0 → Type 0
Unless true P = Unit {0}
Unless false P = P

-- the fact, unless the fault is out of memory
abbrev pub UnlessMemory : {F : Type 0} → (F → Bool) → F → Type 0 → Type 0
UnlessMemory wants fault P = Unless (wants fault) P

-- what a call answered, seen by `view`, is what the definition has, unless memory ran out
abbrev pub GivesAs : {X Y F : Type 0} → (F → Bool) → (X → Y) → Result X F → Result Y F → Type 0
GivesAs wants view result meant = MatchResult result (λ x. meant ≡ Ok (view x)) (λ f. UnlessMemory wants f (meant ≡ Err f))

-- what a call answered is what the definition has, unless memory ran out
abbrev pub Gives : {X F : Type 0} → (F → Bool) → Result X F → Result X F → Type 0
Gives wants result meant = GivesAs wants (λ x. x) result meant

-- the value that a call put in place is the one that the definition has, unless memory ran out
abbrev pub Takes : {X F : Type 0} → (F → Bool) → Result Unit F → X → Result X F → Type 0
Takes wants result new meant = MatchResult result (λ _. meant ≡ Ok new) (λ f. UnlessMemory wants f (meant ≡ Err f))

-- a text after a call that puts these bytes at its end, or leaves it as it was
abbrev pub PutsOrLeaves : {F : Type 0} → Result Unit F → List ℕ → List ℕ → List ℕ → Type 0
PutsOrLeaves result old new bytes = MatchResult result (λ _. new ≡ old ++ bytes) (λ _. new ≡ old)
