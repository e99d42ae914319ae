use Rattle.std.proofs.Common.{length, subst}
use Rattle.rx_schedule.specs.Mentions.{AreTied, mentions_of}
use Rattle.rx_schedule.specs.Waves.{number_in}
use Rattle.rx_schedule.proofs.Mentioned.{grouped}
use Rattle.rx_schedule.proofs.Tied.{tied_among}
use Rattle.rx_schedule.proofs.shard_plan.shards.Goals as goal

pub returns-clause-together : goal.returns-clause-together
returns-clause-together c =
    let L = c.args.books.now.ledger in
    let records = c.args.transmissions.now in
    let numbers = c.in_ok-numbers.numbers.items in
    let tied = tied_among numbers (mentions_of L records (length records)) c.in_ok-mentions.mentions.list.items
    c.in_ok-mentions.ensures (subst (λ ms. AreTied numbers ms) c.deref.ensures.value c.in_ok-numbers.ensures.tied) in
    grouped L records (number_in numbers) (λ a b in_a in_b same. tied a b in_a in_b same)
