use Rattle.rx_schedule.proofs.Listed.{list_put}
use Rattle.rx_schedule.proofs.shard_numbers.put_place.Goals as goal

pub returns-in_ok-push : goal.returns-in_ok-push
returns-in_ok-push c = list_put (λ list. list.items) c.args.lists.now c.args.number c.args.place c.index-lists-number.result
    c.push.new.self c.if-number-lists.true c.in_ok-push.ensures.items
