-- The derived orders of days and fill keys are the defined ones.
use Rattle.std.proofs.Common.{◌≡◌, refl}
use Rattle.rx_fields.specs.declared.key.Key.{Key}
use Rattle.rx_fields.specs.Calendar.{Civil, day_cmp}
use Rattle.rx_fields.specs.Order.{key_cmp}
use Rattle.rx_fields.specs.contracts.day.DayOrd.TheImpl as day
use Rattle.rx_fields.specs.contracts.key.KeyOrd.TheImpl as key

-- days are ordered by year, then month, then day
pub day_order : (a b : Civil) → day.ghosts.cmp a b ≡ day_cmp a b
day_order a b = refl

-- fill keys are ordered by provider, then reference, then date
pub key_order : (a b : Key) → key.ghosts.cmp a b ≡ key_cmp a b
key_order a b = refl
