-- The plans so far are those that were read, and have the numbers of their places.
use Rattle.std.proofs.Common.{◌≡◌, ◌++◌, length, map}
use Rattle.std.specs.Vec.Iter.{into_iter_items, into_iter_len}
use Rattle.rx_switch.specs.RouteParts.{AreNumbered, opened}
use Rattle.rx_switch.proofs.plans_beside.numbered.Given as goal

abbrev pub invariant-loop-plan : goal.invariant-loop-plan
invariant-loop-plan l = record {
  same : map opened l.so_far.items ≡ map opened l.yielded;
  numbered : AreNumbered l.so_far.items;
  all : l.yielded ++ into_iter_items l.plan-iterator ≡ l.fn.read.items;
  rest : into_iter_len l.plan-iterator ≡ length (into_iter_items l.plan-iterator);
}
