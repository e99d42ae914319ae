-- Each list so far is empty.
use Rattle.std.proofs.Common.{◌≡◌, [], map, replicate}
use Rattle.rx_schedule.proofs.shard_numbers.empty_lists.Given as goal

abbrev pub invariant-lists : goal.invariant-lists
invariant-lists l = map (λ list. list.items) l.lists.items ≡ replicate l.counter []
