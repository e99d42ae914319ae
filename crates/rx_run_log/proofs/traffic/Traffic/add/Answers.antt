use Rattle.std.proofs.Common.{◌∙◌, ◌++◌, ◌+◌, ap, length, take}
use Rattle.std.proofs.lemmas.List.{length-append}
use Rattle.rx_batch.specs.declared.layout.TheConstants.{STX}
use Rattle.rx_run_log.specs.Traffic.{count_of, in_64_bits, last_of}
use Rattle.rx_run_log.proofs.Kept.{count-on, last-on, sum-on, take-on}
use Rattle.rx_run_log.proofs.traffic.Traffic.add.Goals as goal

pub returns-clause-traffic : goal.returns-clause-traffic
returns-clause-traffic c bytes before =
    let piece = c.args.piece.now in
    record {
      sum = c.update.ensures.holds bytes before.sum;
      front = c.keep_front.ensures ∙ ap (λ l. take 256 (l ++ piece)) before.front ∙ take-on 256 bytes piece;
      end = c.keep_end.ensures ∙ ap (λ l. last_of 256 (l ++ piece)) before.end ∙ last-on 256 bytes piece;
      size = c.saturating_add-self.ensures ∙ ap (λ n. in_64_bits (n + length piece)) before.size
          ∙ sum-on (length bytes) (length piece) _ _ (length-append bytes piece);
      line_feeds = rw c.of-marks.ensures.line_feeds at c.saturating_add-self-2.ensures
          ∙ ap (λ n. in_64_bits (n + count_of 10 piece)) before.line_feeds
          ∙ sum-on (count_of 10 bytes) (count_of 10 piece) _ _ (count-on 10 bytes piece);
      starts = rw c.of-marks.ensures.starts at c.saturating_add-self-3.ensures
          ∙ ap (λ n. in_64_bits (n + count_of STX piece)) before.starts
          ∙ sum-on (count_of STX bytes) (count_of STX piece) _ _ (count-on STX bytes piece);
    }
