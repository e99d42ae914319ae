-- Plumbing: where the transactions of a transmission stand.
use Rattle.std.specs.Prelude.{List, [], ◌∷◌}
use Rattle.rx_d0_values.specs.declared.transaction.Transaction.{Transaction}
use Rattle.rx_d0_values.specs.declared.transaction.Kept.{Kept}
use Rattle.rx_d0_values.specs.declared.transaction.Kept.TheVariants.{One, Several}

-- the transactions, in their order
abbrev pub items_of : Kept → List Transaction
items_of (One transaction) = transaction ∷ []
items_of (Several items) = items.items
