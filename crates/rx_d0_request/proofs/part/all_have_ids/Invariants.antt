use Rattle.std.proofs.Common.{◌≡◌, length}
use Rattle.std.specs.Prelude.{filter}
use Rattle.std.specs.List.{list_all}
use Rattle.rx_d0_request.specs.Cut.{has_id, is_nonempty}
use Rattle.rx_d0_request.proofs.part.all_have_ids.Given as goal

abbrev pub invariant-loop-piece : goal.invariant-loop-piece
invariant-loop-piece l = list_all has_id (filter is_nonempty l.pieces) ≡ list_all has_id (filter is_nonempty l.fn.pieces)

abbrev pub decreases-loop-piece : goal.decreases-loop-piece
decreases-loop-piece l = length l.pieces
