-- Plumbing: the groups while one item after another is put after those of its provider.
use Rattle.std.specs.Prelude.{ℕ, if◌then◌else◌, List, [], ◌∷◌, ◌++◌, map}
use Rattle.std.specs.Vec.{vec_items}
use Rattle.std.specs.declared.vec.Vec.{Vec}
use Rattle.rx_settle.specs.Providers.{is_same}

module _ {X Z : Type 0} where
  -- a provider with its items
  abbrev pub group_in : List ℕ × Vec X Z → List ℕ × List X
  group_in e = (e.0, vec_items e.1)

  abbrev pub groups_in : List (List ℕ × Vec X Z) → List (List ℕ × List X)
  groups_in es = map group_in es

-- the groups after one more item: it goes after those of its provider, or is a new provider's
abbrev pub added : {X : Type 0} → List ℕ → X → List (List ℕ × List X) → List (List ℕ × List X)
added provider x [] = (provider, x ∷ []) ∷ []
added provider x (e ∷ es) = if is_same provider e.0 then (e.0, e.1 ++ x ∷ []) ∷ es else e ∷ added provider x es
