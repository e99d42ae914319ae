-- The record is accepted: its reply, its ledger and its explanations are those of its transactions.
use Rattle.std.proofs.Common.{◌≡◌, ◌+◌, ◌-◌, ◌++◌, [], ◌∷◌, ◌∙◌, ℕ, ap, get_or, map, refl, subst, sym, take, arith}
use Rattle.rx_d0_values.specs.declared.reply.Outcome.{Outcome}
use Rattle.rx_d0_values.specs.declared.reply.Outcome.TheVariants as outcome
use Rattle.rx_d0_values.specs.declared.transmission.Body.{Body}
use Rattle.rx_d0_values.specs.declared.transmission.Transmission.{Transmission}
use Rattle.rx_explain.specs.declared.facts.Facts.{Facts}
use Rattle.rx_serial.specs.Underway.{scope_of}
use Rattle.rx_explain.specs.Around.{AreTermsFor}
use Rattle.rx_ledger.specs.Basis.{HoldsRecord}
use Rattle.rx_ledger.specs.Places.{transactions_of}
use Rattle.rx_ledger.specs.declared.figures.Figures.{Figures}
use Rattle.std.specs.List.{All}
use Rattle.rx_ledger.specs.Fold.{fold_ledger, ledger_of_body, outcome_of}
use Rattle.rx_ledger.specs.Ledger.{Ledger}
use Rattle.rx_commands.proofs.Courses.{course_more}
use Rattle.rx_commands.proofs.EachExplained.{among_heard}
use Rattle.rx_commands.proofs.Items.{item_at}
use Rattle.rx_commands.proofs.replay.record.explain_record.Goals as goal

pub explain_heard-requires-clause-awaited : goal.explain_heard-requires-clause-awaited
explain_heard-requires-clause-awaited c =
    λ (L : Ledger).
    subst (λ (b : Body). HoldsRecord (scope_of c.args.course.now.order) L b) c.in-Heard.is
    (c.requires.course.awaited c.args.course.now.done c.index-batch-course.result c.requires.ahead L)

pub explain_heard-requires-clause-terms : goal.explain_heard-requires-clause-terms
explain_heard-requires-clause-terms c =
    let terms = c.terms-terms.ensures in
    let inside = λ (b : Body). All (λ u. AreTermsFor c.args.batch.now.sheet.now u c.terms-terms.result) (transactions_of b) in
    subst inside c.in-Heard.is
    (λ i d within. record {
      same_figures = terms.same_figures;
      same_decision = λ o L. terms.same_decisions o L i d within;
    })

pub explain_heard-requires-clause-period : goal.explain_heard-requires-clause-period
explain_heard-requires-clause-period c =
    c.requires.course.period ∙ ap (λ (f : Figures). f.period) (sym c.terms-terms.ensures.same_figures)

pub answers_in-requires : goal.answers_in-requires
answers_in-requires c = rw c.deref.ensures.value c.in_ok-facts.ensures.few

pub returns-clause-course : goal.returns-clause-course
returns-clause-course c =
    let lot = c.args.batch.now.lot in
    let plan = c.args.batch.now.sheet.now in
    let asked = c.args.batch.now.asked.now in
    let old = c.args.course.now in
    let L = old.order.books.ledger in
    let t = get_or asked old.done c.index-batch-course.result in
    let answered = c.in_ok-answers_in.ensures
    ∙ ap (map (λ (x : Facts). x.answer)) c.deref.ensures.value ∙ c.in_ok-facts.ensures.answers in
    course_more c.args.batch.now old _ t c.requires.course c.requires.ahead
    (ap (λ (u : Transmission). get_or asked old.done u) c.index-batch-course.is) refl
    (c.in_ok-facts.ensures.after ∙ ap (ledger_of_body lot plan (old.done + 1) L) (sym c.in-Heard.is))
    (c.in_ok-push.ensures.items
    ∙ ap (λ (o : Outcome). old.replies.items ++ record { echo = t.echo; outcome = o } ∷ [])
    (ap outcome.Heard answered ∙ ap (outcome_of lot plan (old.done + 1) L) (sym c.in-Heard.is)))
    c.in_ok-facts.ensures.scope

pub returns-clause-explained : goal.returns-clause-explained
returns-clause-explained c =
    let lot = c.args.batch.now.lot in
    let plan = c.args.batch.now.sheet.now in
    let asked = c.args.batch.now.asked.now in
    let opening = c.args.batch.now.opening.now.ledger in
    let old = c.args.course.now in
    let t = get_or asked old.done c.index-batch-course.result in
    let here : t ≡ get_or asked old.done t = ap (λ (u : Transmission). get_or asked old.done u) c.index-batch-course.is in
    let before : old.done + 1 - 1 ≡ old.done = omega arith in
    among_heard c.args.batch.now (old.done + 1) t c.in-Heard.heard old.order.books.ledger
    c.in_ok-facts.facts.items (item_at asked old.done t c.requires.ahead here) c.in-Heard.is
    (ap (λ (n : ℕ). fold_ledger lot plan 1 (take n asked) opening) before ∙ sym c.requires.course.ledger)
    c.in_ok-facts.ensures.explained
