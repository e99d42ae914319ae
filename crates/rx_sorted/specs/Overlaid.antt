-- Plumbing: an ascending list of items, overlaid by slots: each slot says what stands now under its key, an item or none.
use Rattle.std.specs.Prelude.{◌≡◌, List, Option, Some, None}
use Rattle.std.specs.List.{fold}
use Rattle.std.specs.declared.cmp.Ordering.{Ordering}
use Rattle.std.specs.declared.cmp.Ordering.TheVariants.{Equal}
use Rattle.rx_sorted.specs.Ascending.{put, without}

module _ {X K S : Type 0} (cmp : K → K → Ordering) (key : X → K) (slot_key : S → K) (held : S → Option X) where
  -- the items with this item under its key, or with none under this one
  abbrev pub written : List X → K → Option X → List X
  written xs k None = without cmp key xs k
  written xs k (Some x) = put cmp key xs x

  -- the items with what a slot holds
  abbrev pub with_slot : List X → S → List X
  with_slot xs s = written xs (slot_key s) (held s)

  -- the items with what each slot holds
  abbrev pub overlaid : List X → List S → List X
  overlaid xs slots = fold with_slot xs slots

  -- what stands under a key: what its slot holds, else the item
  abbrev pub found_under : Option S → Option X → Option X
  found_under None o = o
  found_under (Some s) o = held s

  -- an item has the key of its slot
  abbrev pub IsUnder : K → Option X → Type 0
  IsUnder k None = Unit {0}
  IsUnder k (Some x) = cmp (key x) k ≡ Equal

  abbrev pub HoldsOwn : S → Type 0
  HoldsOwn s = IsUnder (slot_key s) (held s)
