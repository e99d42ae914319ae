-- The names of the footprints so far are spread.
use Rattle.std.proofs.Common.{◌≡◌, take}
use Rattle.rx_schedule.proofs.Spread.{spread}
use Rattle.rx_schedule.proofs.uses.Uses.of.Given as goal

abbrev pub invariant-footprints : goal.invariant-footprints
invariant-footprints l = record {
  keys : l.keys.items ≡ spread (λ F. F.keys) 1 (take l.at l.footprints);
  families : l.families.items ≡ spread (λ F. F.families) 1 (take l.at l.footprints);
}
