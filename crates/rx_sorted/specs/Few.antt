-- Meaning: a list that holds a single item in place.
use Rattle.std.specs.Prelude.{List, [], ◌∷◌}
use Rattle.rx_sorted.specs.declared.few.Few.{Few}
use Rattle.rx_sorted.specs.declared.few.Few.TheVariants.{One, Many}

-- its items
abbrev pub items_of : {T : Type 0} → Few T → List T
items_of (One item) = item ∷ []
items_of (Many items) = items.items
