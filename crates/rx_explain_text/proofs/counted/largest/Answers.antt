-- One more claim is put in where it counts something; of those that are put in as many are kept as are listed.
use Rattle.std.proofs.Common.{◌≡◌, ◌<◌, ◌+◌, ◌∙◌, ◌∷◌, ◌++◌, [], length, take, sym, ap, arith}
use Rattle.std.proofs.lemmas.Bool.{le-ltb, lt-ltb}
use Rattle.std.proofs.lemmas.List.{take_more}
use Rattle.std.proofs.lemmas.List.Sums.{fold-append}
use Rattle.rx_explain_text.specs.Counted.{by_size, put_in, with_claim}
use Rattle.rx_explain_text.specs.declared.counted.Counted.{Counted}
use Rattle.rx_explain_text.specs.declared.counted.TheConstants.{MOST_LISTED}
use Rattle.rx_explain_text.proofs.Largest.{kept_alike, with_none, with_some}
use Rattle.rx_explain_text.proofs.counted.largest.Goals as goal
use Rattle.rx_explain_text.proofs.counted.largest.Goals.{then-cents-gt0+in_ok-put_in, else-cents-gt0}

pub loop-traced-preserved : goal.loop-traced-preserved
loop-traced-preserved c =
    let ts = c.args.counted.now in
    let i = c.loop-traced.traced-index in
    let b = c.args.bill.now in
    let t = c.traced-item.result in
    let cents = c.counted_of-cents.result in
    let within : i < length ts = omega arith in
    let xs = by_size c.args.counts b (take i ts) in
    let more : by_size c.args.counts b (take (i + 1) ts) ≡ with_claim c.args.counts b xs t =
    ap (by_size c.args.counts b) (take_more ts i t within ∙ ap (λ z. take i ts ++ z ∷ []) (sym c.traced-item.is))
    ∙ fold-append (with_claim c.args.counts b) [] (take i ts) (t ∷ []) in
    elim c.if-cents-gt0.branch [
      | then-cents-gt0+in_ok-put_in w ↦
          let x : Counted = record { cents = cents; traced = t } in
          let some = lt-ltb 0 cents w.if-cents-gt0.true in
          rw w.listed-is
          (w.in_ok-put_in.ensures ∙ ap (λ ys. take MOST_LISTED (put_in ys x)) c.loop-traced.invariant
          ∙ kept_alike MOST_LISTED xs x
          ∙ sym (ap (take MOST_LISTED) (more ∙ with_some c.args.counts b xs t cents c.counted_of-cents.ensures some)))
      | else-cents-gt0 w ↦
          let none = le-ltb 0 cents w.if-cents-gt0.false in
          rw w.listed-is
          (c.loop-traced.invariant
          ∙ sym (ap (take MOST_LISTED) (more ∙ with_none c.args.counts b xs t cents c.counted_of-cents.ensures none)))
    ]
