-- A claim that is paid is of a listed member.
use Rattle.std.proofs.Common.{◌≡◌, sym, ap, ◌∙◌}
use Rattle.rx_d0_values.specs.declared.reply.Answer.TheVariants.{Paid}
use Rattle.rx_d0_values.specs.declared.transaction.Transaction.TheVariants.{Bill}
use Rattle.rx_ledger.specs.Answers.{answer, answer_to}
use Rattle.rx_ledger.specs.Claims.{asked_on}
use Rattle.rx_ledger.specs.TermList.{drugs_in}
use Rattle.rx_ledger.proofs.OfMember.{paid-listed}
use Rattle.rx_ledger.proofs.step.adjudicate.Goals as goal

pub add-requires-clause-listed : goal.add-requires-clause-listed
add-requires-clause-listed g c =
    let a = asked_on c.args.occasion.now (drugs_in c.args.terms.now.places) in
    let L = g.S.Basis.ledger c.args.basis.now in
    let t = c.args.transaction.now in
    let given : c.answer_to-answer.result ≡ answer a L t =
    c.answer_to-answer.ensures ∙ ap (answer_to c.args.occasion.now.number t) c.decide-decision.ensures in
    let paid : answer a L (Bill c.in-Bill-Paid.bill) ≡ Paid c.in-Bill-Paid.paid =
    sym (given ∙ ap (answer a L) c.in-Bill-Paid.is-0) ∙ c.in-Bill-Paid.is-1 in
    rw c.row.ensures (paid-listed a L c.in-Bill-Paid.bill c.in-Bill-Paid.paid paid)
