-- The list so far, and the families that are left.
use Rattle.std.proofs.Common.{◌≡◌, ◌++◌}
use Rattle.rx_schedule.proofs.billers.Billers.put_families.Given as goal

abbrev pub invariant-loop-family : goal.invariant-loop-family
invariant-loop-family l = l.list.items ++ l.family-iterator ≡ l.initial.list.items ++ l.initial.family-iterator
