-- What the transactions so far mention, and reverse, comes after the others.
use Rattle.std.proofs.Common.{◌≡◌, ◌++◌, take}
use Rattle.std.specs.List.{flat_map}
use Rattle.rx_schedule.specs.Mentions.{named_by, reversed_by}
use Rattle.rx_schedule.proofs.mentions.Mentions.put_heard.Given as goal

abbrev pub invariant-transactions : goal.invariant-transactions
invariant-transactions l = record {
  list : l.self.list.items
      ≡ l.initial.self.list.items ++ flat_map (named_by l.at l.heard) (take l.transaction-index l.transaction-items);
  reversed : l.self.reversed.items
      ≡ l.initial.self.reversed.items ++ flat_map (reversed_by l.at l.heard) (take l.transaction-index l.transaction-items);
}
