-- What each shard's records are replied is what the fold replies at their places.
use Rattle.std.proofs.Common.{ℕ, ◌<◌, List, [], get_or, length, map, sym, ap, ◌∙◌, arith}
use Rattle.std.proofs.lemmas.List.{get_or-map, length-map}
use Rattle.std.proofs.lemmas.Option.{slice_get-get_or}
use Rattle.rx_d0_values.specs.declared.reply.Reply.{Reply}
use Rattle.rx_schedule.specs.Footprints.{footprint_at}
use Rattle.rx_schedule.specs.Jobs.{reply_at}
use Rattle.rx_schedule.specs.Shards.{books_of_shard, is_of, places_of}
use Rattle.rx_schedule.specs.Waves.{number_in}
use Rattle.rx_schedule.proofs.Grouped.{shard_apart}
use Rattle.rx_schedule.proofs.Unparted.{unparted_replies}
use Rattle.rx_wave.specs.declared.job.Job.{Job}
use Rattle.rx_wave.specs.declared.shard.Ended.{Ended}
use Rattle.rx_wave.specs.Jobs.{AreReplies, HaveRun}
use Rattle.rx_wave.proofs.Lists.{an_item}

module _ (job : Job) (numbers : List ℕ) (ended : List Ended) (have : HaveRun job numbers ended) where
  abbrev replies : List (List Reply)
  replies = map (λ end. end.replies.items) ended

  pub are_replies : AreReplies (reply_at job.lot job.sheet.now job.books.now.ledger job.transmissions.now) numbers replies
  are_replies =
      let long = length-map ended (λ end. end.replies.items) in
      let L = job.books.now.ledger in
      let records = job.transmissions.now in
      let n = length records in
      record {
        within = λ i d lt. let low = have.within i d lt in omega (arith, low, long);
        each = λ k lt.
            let low : k < length ended = omega (arith, lt, long) in
            let end = get_or ended k (an_item ended k low) in
            let ran = have.each k end (slice_get-get_or ended k (an_item ended k low) low) in
            let shard = is_of (number_in numbers) k in
            get_or-map (λ end. end.replies.items) ended k (an_item ended k low) [] low
            ∙ ran.replies
            ∙ unparted_replies job.lot job.sheet.now L records have.in_order shard
            (books_of_shard (footprint_at L records) n (number_in numbers) k)
            (shard_apart L records (number_in numbers) have.grouped k) n (omega arith)
            ∙ ap (λ m. map (reply_at job.lot job.sheet.now L records) (places_of shard m)) (sym have.one_each);
      }
