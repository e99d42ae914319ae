use Rattle.std.proofs.Common.{◌≡◌, ◌+◌, ◌∷◌, [], ◌++◌, take, sym, ap, ◌∙◌, arith}
use Rattle.std.proofs.lemmas.List.{take_more}
use Rattle.rx_settle.specs.Answers.{plus, weight}
use Rattle.rx_settle.specs.Counting.{counted, tallies_of}
use Rattle.rx_settle.proofs.Tallies.{tally_of, tally_of-push, weight-plus}
use Rattle.rx_settle.proofs.Tallied.{counted-tallies, weight-tally_at}
use Rattle.rx_settle.proofs.settlement.tally_replies.Goals as goal

-- the provider's tally weighs no more than that of all replies so far
pub count-requires : goal.count-requires
count-requires c =
    let before = take c.loop-reply.reply-index c.args.replies.now in
    let all = ap weight c.loop-reply.invariant.total in
    rw c.loop-reply.invariant.providers
    (omega (arith, weight-tally_at c.provider_field.result before, all, c.of-more.ensures.within))

-- the reply is counted in all and for its provider
pub loop-reply-preserved : goal.loop-reply-preserved
loop-reply-preserved c =
    let before = take c.loop-reply.reply-index c.args.replies.now in
    let reply = c.reply-item.result in
    let after : take (c.loop-reply.reply-index + 1) c.args.replies.now ≡ before ++ reply ∷ [] =
    take_more c.args.replies.now c.loop-reply.reply-index reply c.loop-reply-test.true
    ∙ ap (λ r. before ++ r ∷ []) (sym c.reply-item.is) in
    record {
      total =
          c.plus-total.ensures ∙ (λ j. plus (c.loop-reply.invariant.total j) (c.of-more.ensures.value j))
          ∙ sym (tally_of-push before reply) ∙ ap tally_of (sym after);
      within = omega (
        arith,
        ap weight c.plus-total.ensures,
        weight-plus c.loop-reply.total c.of-more.result,
        c.loop-reply.invariant.within,
        c.of-more.ensures.within,
      );
      providers =
          c.in_ok-count.ensures
          ∙ (λ j. counted (c.provider_field.ensures j) (c.of-more.ensures.value j) (c.loop-reply.invariant.providers j))
          ∙ counted-tallies before reply ∙ ap tallies_of (sym after);
    }
