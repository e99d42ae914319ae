-- The texts so far are those of the pieces so far.
use Rattle.std.proofs.Common.{◌≡◌, ◌++◌, length}
use Rattle.std.specs.List.{flat_map}
use Rattle.std.specs.Vec.{vec_items}
use Rattle.std.specs.Vec.Iter.{into_iter_items, into_iter_len}
use Rattle.rx_io.specs.Pieces.{text_of}
use Rattle.rx_switch.proofs.job.texts_of.Given as goal

abbrev pub invariant-loop-pieces : goal.invariant-loop-pieces
invariant-loop-pieces l = record {
  so_far : flat_map vec_items l.texts.items ≡ flat_map text_of l.yielded;
  all : l.yielded ++ into_iter_items l.pieces-iterator ≡ l.fn.list.items;
  rest : into_iter_len l.pieces-iterator ≡ length (into_iter_items l.pieces-iterator);
}
