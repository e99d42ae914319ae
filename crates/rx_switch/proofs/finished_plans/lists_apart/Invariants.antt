-- The lists and the outputs of the shares so far.
use Rattle.std.proofs.Common.{◌≡◌, ◌++◌, length, map}
use Rattle.std.specs.Vec.Iter.{into_iter_items, into_iter_len}
use Rattle.rx_switch.specs.RouteParts.{output_texts}
use Rattle.rx_switch.proofs.finished_plans.lists_apart.Given as goal

abbrev pub invariant-loop-share : goal.invariant-loop-share
invariant-loop-share l = record {
  lists : map (λ list. list.items) l.lists.items ≡ map (λ share. share.replies.items) l.yielded;
  outputs : map output_texts l.outputs.items ≡ map (λ share. output_texts share.output) l.yielded;
  all : l.yielded ++ into_iter_items l.share-iterator ≡ l.fn.shares.items;
  rest : into_iter_len l.share-iterator ≡ length (into_iter_items l.share-iterator);
}
