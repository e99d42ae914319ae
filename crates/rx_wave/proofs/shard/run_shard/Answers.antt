-- What the records leave on the opening books is what they leave at the places.
use Rattle.std.proofs.Common.{◌≡◌, List, sym, ap, subst, ◌∙◌}
use Rattle.std.specs.Prelude.{◌↔◌}
use Rattle.std.specs.List.{Contains}
use Rattle.rx_fields.specs.declared.key.Key.{Key}
use Rattle.rx_ledger.specs.Ledger.{Ledger}
use Rattle.rx_schedule.specs.Shards.{keys_at, ledger_of, replies_of}
use Rattle.rx_wave.proofs.shard.run_shard.Goals as goal

pub returns : goal.returns
returns g c =
    let job = c.args.job.now in
    let records = job.transmissions.now in
    let places = c.args.places.now in
    let kept : c.into_parts-ended.result.keys.items ≡ c.in_ok-order.order.keys =
    c.into_parts-ended.ensures.keys ∙ c.in_ok-replies.ensures.keys in
    record {
      period = ap (λ b. b.period) c.into_parts-ended.ensures.books ∙ c.in_ok-replies.ensures.period;
      ledger = ap (λ b. b.ledger) c.into_parts-ended.ensures.books ∙ c.in_ok-replies.ensures.ledger
          ∙ ap (λ (L : Ledger). ledger_of job.lot job.sheet.now records places L) c.in_ok-order.ensures.ledger;
      keys = λ key.
          subst (λ (ks : List Key). Contains ks key ↔ Contains (keys_at records places) key) (sym kept)
          (c.in_ok-order.ensures.keys key);
      replies = c.in_ok-replies.ensures.value
          ∙ ap (λ (L : Ledger). replies_of job.lot job.sheet.now records places L) c.in_ok-order.ensures.ledger;
    }
