-- The replies of the plans so far.
use Rattle.std.proofs.Common.{◌≡◌, length, map, take}
use Rattle.rx_switch.specs.JoinParts.{ArePicked, response_texts}
use Rattle.rx_switch.proofs.joining.lists_of_plans.Given as goal

abbrev pub invariant-loop-text : goal.invariant-loop-text
invariant-loop-text l = record {
  picked : ArePicked l.batch l.dealt (map response_texts (take l.text-index l.texts)) (map (λ list. list.items) l.lists.items);
  count : length l.lists.items ≡ l.text-index;
}
