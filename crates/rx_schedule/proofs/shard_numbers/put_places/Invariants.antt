-- In each list the places of the numbers so far come after those that were there.
use Rattle.std.proofs.Common.{◌≡◌, ◌<◌, ◌++◌, ℕ, length, map}
use Rattle.rx_schedule.specs.Shards.{is_of, list_at, places_of}
use Rattle.rx_schedule.specs.Waves.{number_in}
use Rattle.rx_schedule.proofs.shard_numbers.put_places.Given as goal

abbrev pub invariant-numbers : goal.invariant-numbers
invariant-numbers l = (k : ℕ) → k < length l.initial.lists
    → list_at (map (λ list. list.items) l.lists) k
    ≡ list_at (map (λ list. list.items) l.initial.lists) k ++ places_of (is_of (number_in l.numbers) k) l.at
