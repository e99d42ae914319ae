use Rattle.std.proofs.Common.{◌≡◌, ◌++◌, map, length}
use Rattle.rx_d0_request.specs.Bills.{transaction}
use Rattle.rx_d0_request.specs.Known.{group_of}
use Rattle.rx_d0_request.specs.Views.{insurance_texts}
use Rattle.rx_d0_request.proofs.request.transactions.Given as goal

abbrev pub invariant-loop-group : goal.invariant-loop-group
invariant-loop-group l =
    l.list.items ++ map (λ group. transaction l.is_billing (insurance_texts l.common) (group_of group)) l.pieces
    ≡ map (λ group. transaction l.is_billing (insurance_texts l.common) (group_of group)) l.fn.pieces

abbrev pub decreases-loop-group : goal.decreases-loop-group
decreases-loop-group l = length l.pieces
