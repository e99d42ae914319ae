-- The uses of the names so far are put.
use Rattle.std.proofs.Common.{◌≡◌, ◌++◌, map, take}
use Rattle.rx_schedule.proofs.uses.put_uses.Given as goal

abbrev pub invariant-names : goal.invariant-names
invariant-names g l = l.uses.items ≡ l.initial.uses.items ++ map (λ k. (k, l.place)) (take l.name-index l.names)
