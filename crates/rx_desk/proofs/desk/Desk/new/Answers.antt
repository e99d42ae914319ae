use Rattle.std.proofs.Common.{◌≡◌, ◌*◌, ◌≤◌, length, replicate, vec_capacity, rules, sym, ap, subst, ◌∙◌}
use Rattle.rx_schedule.specs.Footprints.{footprints_of}
use Rattle.rx_desk.specs.declared.state.State.TheVariants.{Waiting}
use Rattle.rx_desk.specs.Kept.{job_with}
use Rattle.rx_desk.proofs.Starting.{kept_start, ledger_in_order, terms_fit}
use Rattle.rx_desk.proofs.desk.Desk.new.Goals as goal

pub invariant_of-result : goal.invariant_of-result
invariant_of-result c =
    let records = c.args.transmissions.items in
    let made = c.in_ok-made.made in
    let is = c.in_ok-made.ensures in
    let j = job_with c.args.lot c.figures.result.now made.drugs.items made.terms.items c.args.books records in
    let terms = terms_fit c.args.lot c.args.sheet.now (record { figures = c.figures.result.now; drugs = made.drugs.items })
    c.deref.result.now records made.terms.items
    (λ i. record { figures = sym c.figures.ensures.value i; drugs = sym is.drugs i })
    c.deref.ensures.value is.terms in
    let few : length records ≤ 100_000 = search rules in
    let left : c.len-waiting.result ≡ length records = search rules in
    kept_start j _ made.room.history.items made.shared.footprints.items made.shared.queues
    made.shared.shelf made.room.states.items c.len-waiting.result made.room.replies.items
    (record {
      in_order = ledger_in_order c.args.books.ledger is.within;
      period = c.requires.period ∙ ap (λ f. f.period) (sym c.figures.ensures.value);
      few = few;
      terms = terms;
    })
    is.history
    (is.footprints ∙ ap (footprints_of c.args.books.ledger) c.deref.ensures.value)
    is.queues
    is.handed
    is.passed
    is.period
    is.rest
    is.values
    is.slots
    is.inside
    (is.states ∙ ap (λ rs. replicate (length rs) Waiting) c.deref.ensures.value)
    (is.replies ∙ ap length c.deref.ensures.value)
    left
    (subst (λ rs. 2 * length rs ≤ vec_capacity made.room.history) c.deref.ensures.value is.capacity)

pub returns-clause-terms : goal.returns-clause-terms
returns-clause-terms c =
    let made = c.in_ok-made.made in
    let is = c.in_ok-made.ensures in
    terms_fit c.args.lot c.args.sheet.now (record { figures = c.figures.result.now; drugs = made.drugs.items })
    c.deref.result.now c.args.transmissions.items made.terms.items
    (λ i. record { figures = sym c.figures.ensures.value i; drugs = sym is.drugs i })
    c.deref.ensures.value is.terms
