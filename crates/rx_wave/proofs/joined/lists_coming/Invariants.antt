-- The replies of the lists so far.
use Rattle.std.proofs.Common.{◌≡◌, ◌++◌, length, map}
use Rattle.std.specs.Vec.Iter.{into_iter_items, into_iter_len}
use Rattle.rx_wave.proofs.joined.lists_coming.Given as goal

abbrev pub invariant-loop-list : goal.invariant-loop-list
invariant-loop-list l = record {
  coming : l.coming.items ≡ map (λ list. list.items) l.yielded;
  all : l.yielded ++ into_iter_items l.list-iterator ≡ l.fn.lists.items;
  rest : into_iter_len l.list-iterator ≡ length (into_iter_items l.list-iterator);
}
