-- What the records so far mention, and reverse.
use Rattle.std.proofs.Common.{◌≡◌}
use Rattle.rx_schedule.specs.Mentions.{named_of, reversed_of}
use Rattle.rx_schedule.proofs.mentions.named_of.Given as goal

abbrev pub invariant-records : goal.invariant-records
invariant-records l = record {
  list : l.mentions.list.items ≡ named_of l.transmissions l.at;
  reversed : l.mentions.reversed.items ≡ reversed_of l.transmissions l.at;
}
