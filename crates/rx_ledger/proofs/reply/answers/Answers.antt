-- The next transaction is asked under the occasion that the rules name, and what it asks for is held.
use Rattle.std.proofs.Common.{◌≡◌, ◌+◌, ◌<◌, ◌∙◌, length, length-append, ap, sym, subst, ◌++◌, ◌∷◌, [], get_or, arith, refl}
use Rattle.rx_d0_values.specs.declared.transaction.Transaction.{Transaction}
use Rattle.rx_ledger.specs.Answers.{after, answer}
use Rattle.rx_ledger.specs.Decisions.{Asked}
use Rattle.rx_ledger.specs.Basis.{Holds, Scope}
use Rattle.rx_ledger.specs.Claims.{asked_on}
use Rattle.rx_ledger.specs.Fold.{asked}
use Rattle.rx_ledger.specs.Named.{key_in}
use Rattle.rx_ledger.specs.TermList.{drugs_in, plan_of}
use Rattle.rx_ledger.proofs.Held.{all_held_after}
use Rattle.rx_ledger.proofs.Stepped.{answers_next, ledger_next}
use Rattle.rx_ledger.proofs.reply.answers.Goals as goal

pub adjudicate-requires-clause-held : goal.adjudicate-requires-clause-held
adjudicate-requires-clause-held g c =
    let now = g.S.Basis.ledger c.loop-at.basis in
    let t = c.index-list-at.result in
    let key = key_in c.args.heard.now in
    let within : c.loop-at.at < length c.as_slice-list.result.now = omega arith in
    let held = c.loop-at.invariant.held c.loop-at.at t within in
    let is : get_or c.as_slice-list.result.now c.loop-at.at t ≡ t = sym c.index-list-at.is in
    let one = subst (λ (u : Transaction). Holds (g.S.Basis.scope c.args.basis.now) key now u) is held in
    let own = subst (λ (s : Scope). Holds s key now t) (sym c.loop-at.invariant.scope) one in
    rw c.new-occasion.ensures own

pub loop-at-preserved : goal.loop-at-preserved
loop-at-preserved g c =
    let terms = c.args.terms.now in
    let plan = plan_of terms in
    let h = c.args.heard.now in
    let nth = c.loop-at.at + 1 in
    let now = g.S.Basis.ledger c.loop-at.basis in
    let scope = g.S.Basis.scope c.args.basis.now in
    let t = c.index-list-at.result in
    let list = c.as_slice-list.result.now in
    let then = g.S.Basis.ledger c.adjudicate.new.basis in
    let given = c.in_ok-adjudicate.field-0 in
    let a = asked terms.lot plan c.args.place h nth in
    let within : c.loop-at.at < length list = omega arith in
    let under : asked_on c.new-occasion.result (drugs_in terms.places) ≡ a =
    rw (c.new-occasion.ensures, c.figures.ensures.value, c.lot.ensures) refl in
    let is : get_or list c.loop-at.at t ≡ t = sym c.index-list-at.is in
    let held : Holds scope (key_in h) now t =
    subst (λ (u : Transaction). Holds scope (key_in h) now u) is (c.loop-at.invariant.held c.loop-at.at t within) in
    let next : then ≡ after a now t given =
    rw under at c.in_ok-adjudicate.ensures.after in
    let answered : given ≡ answer a now t =
    c.in_ok-adjudicate.ensures.value ∙ ap (λ (q : Asked). answer q now t) under in
    let pushed : c.push.new.self.items ≡ c.loop-at.answers.items ++ given ∷ [] = c.in_ok-push.ensures.items in
    let longer : length c.push.new.self.items ≡ length c.loop-at.answers.items + 1 =
    ap length pushed ∙ length-append c.loop-at.answers.items (given ∷ []) in
    record {
      count = omega arith;
      answers = rw pushed
          (answers_next terms.lot plan c.args.place h list c.loop-at.at t now then given within c.index-list-at.is answered
          next c.loop-at.answers.items)
          ∙ c.loop-at.invariant.answers;
      ledger = ledger_next terms.lot plan c.args.place h list c.loop-at.at t now then given within c.index-list-at.is
          answered next
          ∙ c.loop-at.invariant.ledger;
      scope = c.in_ok-adjudicate.ensures.scope ∙ c.loop-at.invariant.scope;
      held = rw next (all_held_after scope (key_in h) a now t given list held c.loop-at.invariant.held);
    }
