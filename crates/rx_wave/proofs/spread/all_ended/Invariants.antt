-- The results so far are those of the shards so far.
use Rattle.std.proofs.Common.{◌≡◌, ◌++◌, Ok, length, map}
use Rattle.std.specs.Vec.Iter.{into_iter_items, into_iter_len}
use Rattle.rx_wave.proofs.spread.all_ended.Given as goal

abbrev pub invariant-loop-result : goal.invariant-loop-result
invariant-loop-result l = record {
  so_far : l.yielded ≡ map Ok l.ended.items;
  all : l.yielded ++ into_iter_items l.result-iterator ≡ l.fn.results.items;
  rest : into_iter_len l.result-iterator ≡ length (into_iter_items l.result-iterator);
}
