-- A claim that is paid is of a listed member, and its fill key was free.
use Rattle.std.proofs.Common.{◌≡◌, ◌∙◌, sym}
use Rattle.rx_d0_values.specs.declared.reply.Answer.TheVariants.{Paid}
use Rattle.rx_d0_values.specs.declared.transaction.Transaction.TheVariants.{Bill}
use Rattle.rx_ledger.specs.Answers.{answer}
use Rattle.rx_ledger.specs.Fold.{asked}
use Rattle.rx_ledger.proofs.OfMember.{paid-free, paid-listed}
use Rattle.rx_explain.proofs.advance.stand_where_paid.Goals as goal

pub add-requires-clause-listed : goal.add-requires-clause-listed
add-requires-clause-listed g c =
    let s = c.args.subject.now in
    let a = asked s.lot s.sheet.now s.at.place s.heard.now s.at.nth in
    let L = g.S.Basis.ledger c.args.basis.now in
    let paid : answer a L (Bill c.args.bill.now) ≡ Paid c.in-Paid.paid = sym c.requires.given ∙ c.in-Paid.is in
    rw c.row.ensures (paid-listed a L c.args.bill.now c.in-Paid.paid paid)

pub add-requires-clause-free : goal.add-requires-clause-free
add-requires-clause-free g c =
    let s = c.args.subject.now in
    let a = asked s.lot s.sheet.now s.at.place s.heard.now s.at.nth in
    let L = g.S.Basis.ledger c.args.basis.now in
    let paid : answer a L (Bill c.args.bill.now) ≡ Paid c.in-Paid.paid = sym c.requires.given ∙ c.in-Paid.is in
    rw (c.row.ensures, c.occasion.ensures) (paid-free a L c.args.bill.now c.in-Paid.paid paid)
