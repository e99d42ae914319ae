-- The next record is awaited, and its reply and ledger are those of the whole sheet.
use Rattle.std.proofs.Common.{◌≡◌, ℕ, ◌-◌, ◌<◌, ◌++◌, [], ◌∷◌, get_or, length, refl, sym, ap, subst, ◌∙◌, arith}
use Rattle.std.proofs.lemmas.List.{get_or_default}
use Rattle.std.proofs.lemmas.Option.{same_Some}
use Rattle.rx_d0_values.specs.declared.transmission.Transmission.{Transmission}
use Rattle.rx_ledger.specs.Basis.{HoldsRecord, Scope}
use Rattle.rx_ledger.specs.Fold.{ledger_after, reply_to}
use Rattle.rx_schedule.specs.Footprints.{no_record, record_at}
use Rattle.rx_serial.specs.Underway.{IsAwaited}
use Rattle.rx_wave.proofs.RunOn.{ledger_next, replies_next}
use Rattle.rx_wave.proofs.shard.replies_to.Goals as goal

pub record-requires-clause-awaited : goal.record-requires-clause-awaited
record-requires-clause-awaited g c =
    let records = c.args.job.now.transmissions.now in
    let t = c.index-job-place.result in
    let at = c.loop-place.place-index in
    let within : at < length c.args.places.now = omega arith in
    let place : ℕ = get_or c.args.places.now at 0 in
    let is = c.requires.places at 0 within in
    let inside : place - 1 < length records = let to = is.to_count in let from = is.from_one in omega arith in
    let there : record_at records place ≡ get_or records (place - 1) t = get_or_default records (place - 1) no_record t inside in
    subst (λ (u : Transmission). IsAwaited c.loop-place.order u) there (c.loop-place.invariant.awaited at 0 within)

pub loop-place-preserved : goal.loop-place-preserved
loop-place-preserved g c =
    let records = c.args.job.now.transmissions.now in
    let plan = c.args.job.now.sheet.now in
    let lot = c.args.job.now.lot in
    let places = c.args.places.now in
    let at = c.loop-place.place-index in
    let t : Transmission = get_or records (get_or places at 0 - 1) c.index-job-place.result in
    let now = c.loop-place.order.books.ledger in
    let next = c.record.new.self.books.ledger in
    let within : at < length places = omega arith in
    let place : ℕ = get_or places at 0 in
    let is = c.requires.places at 0 within in
    let inside : place - 1 < length records = let to = is.to_count in let from = is.from_one in omega arith in
    let there : record_at records place ≡ t =
    get_or_default records (place - 1) no_record c.index-job-place.result inside in
    let replied : c.in_ok-reply.reply ≡ reply_to lot plan place t now =
    c.in_ok-reply.ensures.value ∙ c.terms-terms.ensures.same_reply place now in
    let changed : next ≡ ledger_after lot plan place t now =
    c.in_ok-reply.ensures.after ∙ c.terms-terms.ensures.same_ledger place now in
    let pushed : c.push.new.self.items ≡ c.loop-place.replies.items ++ c.in_ok-reply.reply ∷ [] = c.in_ok-push.ensures.items in
    let scope = c.in_ok-reply.ensures.scope in
    record {
      replies = rw pushed
          (replies_next lot plan records places at place t now next c.in_ok-reply.reply within refl there replied changed
          c.loop-place.replies.items)
          ∙ c.loop-place.invariant.replies;
      ledger = ledger_next lot plan records places at place t now next c.in_ok-reply.reply within refl there replied changed
          ∙ c.loop-place.invariant.ledger;
      period = same_Some _ _ (ap (λ (s : Scope). s.period) scope) ∙ c.loop-place.invariant.period;
      keys = c.in_ok-reply.ensures.keys ∙ c.loop-place.invariant.keys;
      awaited = λ i d inside L.
          subst (λ (s : Scope). HoldsRecord s L (record_at records (get_or places i d)).body) (sym scope)
          (c.loop-place.invariant.awaited i d inside L);
    }
