-- The next record is awaited, and its reply and ledger are those of the whole sheet.
use Rattle.std.proofs.Common.{◌≡◌, ◌+◌, ◌<◌, ◌++◌, [], ◌∷◌, get_or, length, sym, ap, subst, ◌∙◌, arith}
use Rattle.std.proofs.lemmas.Option.{same_Some}
use Rattle.rx_d0_values.specs.declared.transmission.Transmission.{Transmission}
use Rattle.rx_ledger.specs.Basis.{HoldsRecord, Scope}
use Rattle.rx_ledger.specs.Fold.{ledger_after, reply_to}
use Rattle.rx_serial.specs.Underway.{IsAwaited}
use Rattle.rx_wave.proofs.Records.{ledger_next, replies_next}
use Rattle.rx_wave.proofs.in_order.replies_of.Goals as goal

pub record-requires-clause-awaited : goal.record-requires-clause-awaited
record-requires-clause-awaited g c =
    let t = c.index-transmissions-at.result in
    let within : c.loop-at.at < length c.args.transmissions.now = omega arith in
    let is : get_or c.args.transmissions.now c.loop-at.at t ≡ t = sym c.index-transmissions-at.is in
    subst (λ (u : Transmission). IsAwaited c.loop-at.order u) is (c.loop-at.invariant.awaited c.loop-at.at t within)

pub loop-at-preserved : goal.loop-at-preserved
loop-at-preserved g c =
    let list = c.args.transmissions.now in
    let plan = c.args.sheet.now in
    let at = c.loop-at.at in
    let t = c.index-transmissions-at.result in
    let now = c.loop-at.order.books.ledger in
    let next = c.record.new.self.books.ledger in
    let within : at < length list = omega arith in
    let replied : c.in_ok-reply.reply ≡ reply_to c.args.lot plan (at + 1) t now =
    c.in_ok-reply.ensures.value ∙ c.terms-terms.ensures.same_reply (at + 1) now in
    let changed : next ≡ ledger_after c.args.lot plan (at + 1) t now =
    c.in_ok-reply.ensures.after ∙ c.terms-terms.ensures.same_ledger (at + 1) now in
    let pushed : c.push.new.self.items ≡ c.loop-at.replies.items ++ c.in_ok-reply.reply ∷ [] = c.in_ok-push.ensures.items in
    let scope = c.in_ok-reply.ensures.scope in
    record {
      replies = rw pushed
          (replies_next c.args.lot plan list at t now next c.in_ok-reply.reply within c.index-transmissions-at.is replied
          changed c.loop-at.replies.items)
          ∙ c.loop-at.invariant.replies;
      ledger = ledger_next c.args.lot plan list at t now next c.in_ok-reply.reply within c.index-transmissions-at.is replied
          changed
          ∙ c.loop-at.invariant.ledger;
      period = same_Some _ _ (ap (λ (s : Scope). s.period) scope) ∙ c.loop-at.invariant.period;
      awaited = λ i d inside L.
          subst (λ (s : Scope). HoldsRecord s L (get_or list i d).body) (sym scope)
          (c.loop-at.invariant.awaited i d inside L);
    }
