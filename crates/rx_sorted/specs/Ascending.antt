-- Meaning: ascending lists: items in the order of their keys, at most one of a key.
-- `cmp` is the order of the keys, and `key` reads an item's key.
use Rattle.std.specs.Prelude.{◌≡◌, ℕ, ◌<◌, ◌≤◌, ◌&&◌, [], ◌∷◌, Bool, List, Option, is_some, length, not, slice_index_or, true}
use Rattle.std.specs.List.{filter, find, fold, list_all}
use Rattle.std.specs.Ordering.{is_eq, is_lt, match_ordering}
use Rattle.std.specs.declared.cmp.Ordering.{Ordering}
use Rattle.std.specs.declared.cmp.Ordering.TheVariants.{Less, Equal, Greater}

-- what an item is found by that is its own key
abbrev pub itself : {K : Type 0} → K → K
itself k = k

module _ {X K : Type 0} (cmp : K → K → Ordering) (key : X → K) where
  -- whether the item has the key
  abbrev pub has_key : K → X → Bool
  has_key k x = is_eq (cmp (key x) k)

  -- the key is less than that of each item
  abbrev pub IsBelow : K → List X → Type 0
  IsBelow k [] = Unit {0}
  IsBelow k (x ∷ xs) = (cmp k (key x) ≡ Less) × IsBelow k xs

  -- each item's key is less than those of the later items, so no two items have one key
  abbrev pub IsAscending : List X → Type 0
  IsAscending [] = Unit {0}
  IsAscending (x ∷ xs) = IsBelow (key x) xs × IsAscending xs

  -- whether each item's key is less than the next item's
  abbrev pub is_ascending : List X → Bool
  is_ascending [] = true
  is_ascending (x ∷ []) = true
  is_ascending (x ∷ y ∷ ys) = is_lt (cmp (key x) (key y)) && is_ascending (y ∷ ys)

  -- the item that has the key
  abbrev pub item_at : List X → K → Option X
  item_at xs k = find (has_key k) xs

  -- whether an item has the key
  abbrev pub contains_key : List X → K → Bool
  contains_key xs k = is_some (item_at xs k)

  -- whether each item's key is less than this one
  abbrev pub is_past : List X → K → Bool
  is_past xs k = list_all (λ x. is_lt (cmp (key x) k)) xs

  -- the list with x in its place, where it replaces the item that has its key
  abbrev pub put : List X → X → List X
  put [] x = x ∷ []
  put (y ∷ ys) x = match_ordering (cmp (key y) (key x)) (y ∷ put ys x) (x ∷ ys) (x ∷ y ∷ ys)

  -- the list with each of ys put in, one after another
  abbrev pub put_all : List X → List X → List X
  put_all xs ys = fold put xs ys

  -- every item but the one that has the key
  abbrev pub without : List X → K → List X
  without xs k = filter (λ x. not (has_key k x)) xs

-- the item at place i has the key
pub record IsAt {X K : Type 0} (cmp : K → K → Ordering) (key : X → K) (xs : List X) (k : K) (i : ℕ) : Type 0 where
  pub in_range : i < length xs
  pub has_it : (d : X) → cmp (key (slice_index_or xs i d)) k ≡ Equal

-- an item with the key would go to place i: lesser keys stand before it, and greater ones from it on
pub record IsGap {X K : Type 0} (cmp : K → K → Ordering) (key : X → K) (xs : List X) (k : K) (i : ℕ) : Type 0 where
  pub in_range : i ≤ length xs
  pub before : (j : ℕ) (d : X) → j < i → cmp (key (slice_index_or xs j d)) k ≡ Less
  pub after : (j : ℕ) (d : X) → i ≤ j → j < length xs → cmp (key (slice_index_or xs j d)) k ≡ Greater
