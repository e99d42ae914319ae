-- The replies at the places of a shard are the fold's, so all replies are.
use Rattle.std.proofs.Common.{ℕ, List, length, map, sym, ap, subst, ◌∙◌}
use Rattle.std.specs.List.{range_with_len}
use Rattle.rx_schedule.specs.Jobs.{reply_at}
use Rattle.rx_wave.specs.Jobs.{AreReplies}
use Rattle.rx_wave.proofs.FoldReplies.{all_replies}
use Rattle.rx_wave.proofs.Replied.{are_replies}
use Rattle.rx_wave.proofs.joined.joined.Goals as goal

pub joined_replies-requires : goal.joined_replies-requires
joined_replies-requires g c =
    let job = c.args.job.now in
    let numbers = c.args.shards.now.numbers.items in
    let reply = reply_at job.lot job.sheet.now job.books.now.ledger job.transmissions.now in (
      reply,
      subst (λ (ns : List ℕ). AreReplies reply ns (map (λ end. end.replies.items) c.args.ended.items))
          (sym c.deref-2.ensures.value) (are_replies job numbers c.args.ended.items c.requires.run),
    )

pub returns : goal.returns
returns g c =
    let job = c.args.job.now in
    let numbers = c.args.shards.now.numbers.items in
    let reply = reply_at job.lot job.sheet.now job.books.now.ledger job.transmissions.now in
    let are = subst (λ (ns : List ℕ). AreReplies reply ns (map (λ end. end.replies.items) c.args.ended.items))
    (sym c.deref-2.ensures.value) (are_replies job numbers c.args.ended.items c.requires.run) in
    record {
      books = c.in_ok-books.ensures;
      replies = c.in_ok-replies.ensures reply are
          ∙ ap (λ ns. map reply (range_with_len 1 (length ns))) c.deref-2.ensures.value
          ∙ ap (λ n. map reply (range_with_len 1 n)) c.requires.run.one_each
          ∙ all_replies job.lot job.sheet.now job.transmissions.now job.books.now.ledger;
    }
