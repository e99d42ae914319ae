use Rattle.std.proofs.Common.{sym, ap, ◌∙◌}
use Rattle.std.specs.List.{list_any}
use Rattle.rx_ledger.specs.Answers.{is_too_soon}
use Rattle.rx_d0_values.specs.declared.bill.BillParts.{BillParts}
use Rattle.rx_books_parcel.specs.Parcels.{rows_at}
use Rattle.rx_adjudicate.specs.Scopes.{IsAgreed}
use Rattle.rx_adjudicate.proofs.Asked.{rows_here}
use Rattle.rx_adjudicate.proofs.agreed.AgreedBasis.is_too_soon.Goals as goal

pub returns : goal.returns
returns c =
    let is : IsAgreed c.args.self.now = rw c.self.view_is at c.self.invariant in
    let family = c.args.bill.now.family in
    let rows = c.rows-rows.ensures ∙ ap (λ (b : BillParts). rows_at c.self.inside.parcel b.family) c.parts.ensures
    ∙ ap (λ p. rows_at p family) c.self.view_is ∙ sym (rows_here c.args.self.now is family c.requires.member) in
    c.is_any_too_soon.ensures
    ∙ ap (list_any (is_too_soon c.args.figures.now c.args.date c.args.bill.now)) rows
