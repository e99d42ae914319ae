use Rattle.std.proofs.Common.{sym, ap, ◌∙◌}
use Rattle.rx_books_parcel.specs.Parcels.{row_at}
use Rattle.rx_books_parcel.proofs.Held.{row_read}
use Rattle.rx_adjudicate.specs.Scopes.{IsAgreed}
use Rattle.rx_adjudicate.proofs.agreed.AgreedBasis.row_under.Goals as goal

pub returns : goal.returns
returns c =
    let is : IsAgreed c.args.self.now = rw c.self.view_is at c.self.invariant in
    let read = row_read c.args.self.now is.parcel is.agrees c.args.key.now c.requires in
    c.row.ensures ∙ ap (λ p. row_at p c.args.key.now) c.self.view_is ∙ sym read
