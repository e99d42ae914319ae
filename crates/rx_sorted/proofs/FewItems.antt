-- The items of a short list after one of them is written over.
use Rattle.std.proofs.Common.{◌≡◌, ℕ, zero, suc, ◌<◌, length, set, refl, arith}
use Rattle.rx_sorted.specs.declared.few.Few.{Few}
use Rattle.rx_sorted.specs.declared.few.Few.TheVariants.{One, Many}
use Rattle.rx_sorted.specs.Few.{items_of}
use Rattle.rx_sorted.specs.FewLends.{with_item}

pub items_with : {T : Type 0} (list : Few T) (place : ℕ) (x : T) → place < length (items_of list)
    → items_of (with_item list place x) ≡ set (items_of list) place x
items_with (One y) zero x lt = refl
items_with (One y) (suc i) x lt = absurd (omega arith)
items_with (Many ys) i x lt = refl
