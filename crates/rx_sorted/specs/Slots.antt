-- Plumbing: slots in order of their keys: whether they are filled, and what taking out and putting in makes of them.
use Rattle.std.specs.Prelude.{Bool, false, not, List, map, Option, Some, None, if◌then◌else◌}
use Rattle.std.specs.Option.{is_some, option_and_then, option_to_list}
use Rattle.std.specs.declared.cmp.Ordering.{Ordering}
use Rattle.rx_sorted.specs.Ascending.{contains_key, has_key, item_at, itself}

module _ {X K : Type 0} (cmp : K → K → Ordering) (key : X → K) where
  abbrev pub one_at : (X → X) → K → X → X
  one_at f k y = if has_key cmp key k y then f y else y

  -- the items, of which the one that has the key is changed
  abbrev pub over : (X → X) → K → List X → List X
  over f k xs = map (one_at f k) xs

-- the slot is there and filled; or it is there and empty
abbrev pub is_in : {P B : Type 0} → (P → Option B) → Option P → Bool
is_in held None = false
is_in held (Some p) = is_some (held p)

abbrev pub is_out : {P B : Type 0} → (P → Option B) → Option P → Bool
is_out held None = false
is_out held (Some p) = not (is_some (held p))

-- the slot with this content, if there is one
abbrev pub with_content : {P B : Type 0} → (B → P → P) → Option B → P → P
with_content filled None p = p
with_content filled (Some b) p = filled b p

module _ {P K : Type 0} (cmp : K → K → Ordering) (key : P → K) where
  -- the slot, emptied if its key is one of these
  abbrev pub emptied_of : (P → P) → List K → P → P
  emptied_of emptied ks p = if contains_key cmp itself ks (key p) then emptied p else p

  module _ {B : Type 0} where
    -- what the slot of a key holds
    abbrev pub content_at : (P → Option B) → List P → K → List B
    content_at held slots k = option_to_list (option_and_then held (item_at cmp key slots k))

    -- the slot, with that of these contents which has its key, if there is one
    abbrev pub filled_of : (B → K) → (B → P → P) → List B → P → P
    filled_of name filled contents p = with_content filled (item_at cmp name contents (key p)) p
