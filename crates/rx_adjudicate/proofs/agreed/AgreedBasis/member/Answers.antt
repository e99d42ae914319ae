use Rattle.std.proofs.Common.{sym, ap, ◌∙◌}
use Rattle.rx_books_parcel.specs.Parcels.{member_at}
use Rattle.rx_adjudicate.specs.Scopes.{IsAgreed}
use Rattle.rx_adjudicate.proofs.Asked.{person_here}
use Rattle.rx_adjudicate.proofs.agreed.AgreedBasis.member.Goals as goal

pub returns : goal.returns
returns c =
    let is : IsAgreed c.args.self.now = rw c.self.view_is at c.self.invariant in
    let k = c.args.key.now in
    c.member.ensures ∙ ap (λ p. member_at p k.family k.person) c.self.view_is
    ∙ sym (person_here c.args.self.now is k.family c.requires k.person)
