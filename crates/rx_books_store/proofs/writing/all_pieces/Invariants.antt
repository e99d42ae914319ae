-- The pieces so far are of the texts so far.
use Rattle.std.proofs.Common.{◌≡◌, ◌++◌, length}
use Rattle.std.specs.List.{flat_map}
use Rattle.std.specs.Vec.Iter.{into_iter_items, into_iter_len}
use Rattle.rx_io.specs.Pieces.{text_of}
use Rattle.rx_books_store.proofs.writing.all_pieces.Given as goal

abbrev pub invariant-loop-text : goal.invariant-loop-text
invariant-loop-text l = record {
  so_far : flat_map text_of l.list.items ≡ flat_map (λ t. t.text) l.yielded;
  all : l.yielded ++ into_iter_items l.text-iterator ≡ l.fn.texts.items;
  rest : into_iter_len l.text-iterator ≡ length (into_iter_items l.text-iterator);
}
