-- The pieces so far, and what is left, are the items.
use Rattle.std.proofs.Common.{◌≡◌, ◌++◌, length}
use Rattle.std.specs.List.{flat_map}
use Rattle.rx_books_store.proofs.writer.pieces_of.Given as goal

abbrev pub invariant-pieces : goal.invariant-pieces
invariant-pieces g l = flat_map (λ piece. piece.now) l.pieces.items ++ l.rest ≡ l.items

abbrev pub decreases-pieces : goal.decreases-pieces
decreases-pieces g l = length l.rest
