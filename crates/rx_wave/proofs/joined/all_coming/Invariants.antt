-- The replies of the shards so far.
use Rattle.std.proofs.Common.{◌≡◌, ◌++◌, length, map}
use Rattle.std.specs.Vec.Iter.{into_iter_items, into_iter_len}
use Rattle.rx_wave.proofs.joined.all_coming.Given as goal

abbrev pub invariant-loop-end : goal.invariant-loop-end
invariant-loop-end l = record {
  coming : l.coming.items ≡ map (λ end. end.replies.items) l.yielded;
  all : l.yielded ++ into_iter_items l.end-iterator ≡ l.fn.ended.items;
  rest : into_iter_len l.end-iterator ≡ length (into_iter_items l.end-iterator);
}
