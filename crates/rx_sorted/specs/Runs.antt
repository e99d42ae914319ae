-- Plumbing: ascending lists that are kept as some runs, one after the other.
use Rattle.std.specs.Prelude.{◌≡◌, ℕ, ◌<◌, ◌^◌, Bool, true, false, ◌&&◌, List, [], ◌∷◌, length, nat_lt}
use Rattle.std.specs.List.{flat_map, list_all}
use Rattle.std.specs.Vec.{vec_items}
use Rattle.std.specs.declared.vec.Vec.{Vec}
use Rattle.std.specs.declared.cmp.Ordering.{Ordering}
use Rattle.rx_sorted.specs.Ascending.{IsAscending, is_ascending, is_past}

-- the items of all runs, those of one after those of the run before it
abbrev pub items_of : {X Z : Type 0} → List (Vec X Z) → List X
items_of runs = flat_map vec_items runs

-- whether the run has items
abbrev pub has_items : {X Z : Type 0} → Vec X Z → Bool
has_items run = nat_lt 0 (length run.items)

module _ {X K : Type 0} (cmp : K → K → Ordering) (key : X → K) where
  -- whether a run has items, in order, and the first of them is past each item of the run before it
  abbrev pub may_follow : List X → List X → Bool
  may_follow before [] = false
  may_follow before (x ∷ run) = is_past cmp key before (key x) && is_ascending cmp key (x ∷ run)

  module _ {Z : Type 0} where
    -- whether each run has items, their items are in order, and they are fewer than 2^63
    abbrev pub are_runs : List (Vec X Z) → Bool
    are_runs runs = list_all has_items runs && (is_ascending cmp key (items_of runs) && nat_lt (length (items_of runs)) (2 ^ 63))

-- each run has items, their items are in order, and there are len of them
pub record AreRuns {X K Z : Type 0} (cmp : K → K → Ordering) (key : X → K) (runs : List (Vec X Z)) (len : ℕ) : Type 0 where
  pub none_empty : list_all has_items runs ≡ true
  pub ascending : IsAscending cmp key (items_of runs)
  pub count : len ≡ length (items_of runs)
  pub small : len < 2 ^ 63
