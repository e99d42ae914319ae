-- Plumbing: what such a list ends as, where an item of it is lent.
use Rattle.std.specs.Prelude.{ℕ}
use Rattle.std.specs.Borrow.{Fml, Lends, MutBor, RattleType}
use Rattle.std.specs.Vec as vec
use Rattle.rx_sorted.specs.declared.few.Few.{Few}
use Rattle.rx_sorted.specs.declared.few.Few.TheVariants.{One, Many}
use Rattle.rx_sorted.specs.contracts.few.Few.{the_row}

-- the list with this item at a place that it has
abbrev pub with_item : {T : Type 0} → Few T → ℕ → T → Few T
with_item (One item) place new = One new
with_item (Many items) place new = Many (vec.with_item items place new)

-- it has there what is last written through the borrow
abbrev pub lends_item : (T : RattleType) → MutBor (the_row T).Denot → ℕ → MutBor T.Denot → Fml
lends_item T list place r = Lends (the_row T) T list r (with_item list.now place)
