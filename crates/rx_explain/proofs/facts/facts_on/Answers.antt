-- The transaction is asked under the occasion that the rules name, and the rows are those of the sheet's period.
use Rattle.std.proofs.Common.{◌≡◌, ◌∙◌, refl, ap, sym}
use Rattle.rx_fields.specs.Numbered.{Span}
use Rattle.rx_ledger.specs.Claims.{asked_on}
use Rattle.rx_ledger.specs.Decisions.{Asked, decision_of}
use Rattle.rx_ledger.specs.Fold.{asked}
use Rattle.rx_ledger.specs.declared.occasion.Occasion.{Occasion}
use Rattle.rx_explain.specs.Shown.{counted_for}
use Rattle.rx_explain.proofs.ListedDrugs.{listed_drug}
use Rattle.rx_explain.proofs.facts.facts_on.Goals as goal

pub decide-decision-requires-clause-figures : goal.decide-decision-requires-clause-figures
decide-decision-requires-clause-figures g c =
    ap (λ (o : Occasion). o.figures) c.occasion-occasion.ensures
    ∙ sym c.requires.terms.same_figures

pub workings_for-requires : goal.workings_for-requires
workings_for-requires g c =
    let s = c.args.subject.now in
    let plan = s.sheet.now in
    let L = g.S.Basis.ledger c.args.basis.now in
    let under : asked_on c.occasion-occasion.result plan.drugs ≡ asked s.lot plan s.at.place s.heard.now s.at.nth =
    rw c.occasion-occasion.ensures refl in
    listed_drug (asked s.lot plan s.at.place s.heard.now s.at.nth) L s.transaction.now c.decide-decision.result
    (c.decide-decision.ensures ∙ c.requires.terms.same_decision c.occasion-occasion.result L
    ∙ ap (λ (a : Asked). decision_of a L s.transaction.now) under)

pub returns : goal.returns
returns g c =
    let s = c.args.subject.now in
    let plan = s.sheet.now in
    let t = s.transaction.now in
    let L = g.S.Basis.ledger c.args.basis.now in
    let a = asked s.lot plan s.at.place s.heard.now s.at.nth in
    let under : asked_on c.occasion-occasion.result plan.drugs ≡ a =
    rw c.occasion-occasion.ensures refl in
    let number = ap (λ (o : Occasion). o.number) c.occasion-occasion.ensures in
    let decided : c.decide-decision.result ≡ decision_of a L t =
    c.decide-decision.ensures ∙ c.requires.terms.same_decision c.occasion-occasion.result L
    ∙ ap (λ (a : Asked). decision_of a L t) under in
    record {
      at_is = refl;
      provider_is = refl;
      date_is = refl;
      number_is = number;
      transaction_is = refl;
      decision_is = decided;
      answer_is = rw (number, decided) at c.answer_to.ensures;
      standing_is = rw c.figures.ensures.value at (c.standing.ensures L c.requires.rows);
      open_from_is = rw c.figures-2.ensures.value at (c.open_from.ensures L c.requires.rows);
      workings_are = c.workings_for.ensures;
      counted_are = c.in_ok-counted_for.ensures L c.requires.rows
          ∙ ap (λ (p : Span). counted_for p L t c.decide-decision.result) c.period.ensures;
    }
