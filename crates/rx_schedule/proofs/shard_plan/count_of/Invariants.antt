-- The numbers so far are below the count, which is at most the limit.
use Rattle.std.proofs.Common.{◌<◌, ◌≤◌, take}
use Rattle.std.specs.List.{All}
use Rattle.rx_schedule.proofs.shard_plan.count_of.Given as goal

abbrev pub invariant-numbers : goal.invariant-numbers
invariant-numbers l = record {
  within : All (λ number. number < l.count) (take l.number-index l.numbers);
  few : l.count ≤ l.most;
}
