-- The settlements of the lists so far.
use Rattle.std.proofs.Common.{◌≡◌, map, take}
use Rattle.rx_settle.specs.Settlement.{settlement_text}
use Rattle.rx_switch.proofs.joining.settlements_of.Given as goal

abbrev pub invariant-loop-list : goal.invariant-loop-list
invariant-loop-list l = map (λ text. text.items) l.settlements.items
    ≡ map (λ list. settlement_text l.dealt.lot l.dealt.stamp list.items) (take l.list-index l.lists)
