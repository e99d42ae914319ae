-- A key past an ascending list is none of its keys.
use Rattle.std.proofs.Common.{◌≡◌, true, false, List, [], ◌∷◌, None, refl, ap}
use Rattle.std.specs.Ordering.{is_eq}
use Rattle.std.specs.declared.cmp.Ordering.{Ordering}
use Rattle.std.specs.Prelude.{is_some}
use Rattle.std.proofs.lemmas.Bool.{and_parts}
use Rattle.rx_sorted.specs.Ascending.{contains_key, is_past, item_at}
use Rattle.rx_sorted.proofs.Keys.{Less-from_is_lt}

none_past : {X K : Type 0} (cmp : K → K → Ordering) (key : X → K) (xs : List X) (k : K) → is_past cmp key xs k ≡ true
    → item_at cmp key xs k ≡ None
none_past cmp key [] k past = refl
none_past cmp key (x ∷ xs) k past =
    let parts = and_parts _ _ past in
    rw (ap is_eq (Less-from_is_lt _ parts.0)) (none_past cmp key xs k parts.1)

pub free_past : {X K : Type 0} (cmp : K → K → Ordering) (key : X → K) (xs : List X) (k : K) → is_past cmp key xs k ≡ true
    → contains_key cmp key xs k ≡ false
free_past cmp key xs k past = ap is_some (none_past cmp key xs k past)
