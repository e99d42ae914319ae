-- Plumbing: the two sides of a gap for a key in an ascending list.
use Rattle.std.specs.Prelude.{◌≡◌, ℕ, ◌<◌, ◌≤◌, List, length, slice_index_or}
use Rattle.std.specs.declared.cmp.Ordering.{Ordering}
use Rattle.std.specs.declared.cmp.Ordering.TheVariants.{Less, Greater}

-- the list has at least i items, and the keys of the first i are less
pub record AreBefore {X K : Type 0} (cmp : K → K → Ordering) (key : X → K) (xs : List X) (k : K) (i : ℕ) : Type 0 where
  pub in_range : i ≤ length xs
  pub less : (j : ℕ) (d : X) → j < i → cmp (key (slice_index_or xs j d)) k ≡ Less

-- the keys of those after the first i are greater
pub record AreBehind {X K : Type 0} (cmp : K → K → Ordering) (key : X → K) (xs : List X) (k : K) (i : ℕ) : Type 0 where
  pub greater : (j : ℕ) (d : X) → i ≤ j → j < length xs → cmp (key (slice_index_or xs j d)) k ≡ Greater
