use Rattle.std.proofs.Common.{◌≡◌, ◌+◌, length, map, refl, arith}
use Rattle.rx_schedule.specs.Shards.{list_at}
use Rattle.rx_schedule.proofs.Listed.{places_put}
use Rattle.rx_schedule.proofs.shard_numbers.put_places.Goals as goal

pub numbers-preserved : goal.numbers-preserved
numbers-preserved c = λ k lt.
    let long : length c.numbers.lists ≡ length c.args.lists.now = c.numbers.auto.lists in
    places_put (list_at (map (λ list. list.items) c.args.lists.now) k) (list_at (map (λ list. list.items) c.numbers.lists) k)
    (list_at (map (λ list. list.items) c.put_place.new.lists) k) c.args.numbers.now k c.numbers.at (c.numbers.at + 1) _
    c.numbers-test.true refl (c.numbers.invariant k lt) (c.in_ok-put_place.ensures k (omega arith))
