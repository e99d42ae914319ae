-- Plumbing: the families that billed each fill key, in a map.
use Rattle.std.specs.Prelude.{◌≡◌, ℕ, Bool, List, []}
use Rattle.std.specs.Prelude.{Option, Some, None}
use Rattle.std.specs.BTreeMap.{BTreeMap, get, is_at}
use Rattle.std.specs.BTreeSet.{BTreeSet}
use Rattle.std.specs.List.{list_any}
use Rattle.rx_fields.specs.Order.{id_cmp, key_cmp}
use Rattle.rx_fields.specs.declared.key.Key.{Key}
use Rattle.rx_d0_values.specs.declared.transmission.Transmission.{Transmission}
use Rattle.rx_schedule.specs.Footprints.{billers}

-- the families of an entry, if there is one
abbrev pub families_kept : Option (BTreeSet (List ℕ)) → List (List ℕ)
families_kept None = []
families_kept (Some families) = families.keys

-- the families that the map has for a fill key
abbrev pub billed_families : BTreeMap Key (BTreeSet (List ℕ)) → Key → List (List ℕ)
billed_families m key = families_kept (get key_cmp m key)

-- the family is one of these
abbrev pub has_family : List (List ℕ) → List ℕ → Bool
has_family families f = list_any (is_at (id_cmp f)) families

-- the map has the family for the fill key
abbrev pub is_biller : BTreeMap Key (BTreeSet (List ℕ)) → Key → List ℕ → Bool
is_biller m key f = has_family (billed_families m key) f

-- the map has the billers of each fill key in these records
abbrev pub HasBilled : BTreeMap Key (BTreeSet (List ℕ)) → List Transmission → Type 0
HasBilled m earlier = (key : Key) (f : List ℕ) → is_biller m key f ≡ has_family (billers key earlier) f
