use Rattle.std.proofs.Common.{◌≡◌, length, not, Some, None, sym, ap, ◌∙◌}
use Rattle.std.specs.Prelude.{◌==◌}
use Rattle.rx_books_parcel.specs.Parcels.{family_at}
use Rattle.rx_adjudicate.specs.Scopes.{IsAgreed}
use Rattle.rx_adjudicate.proofs.Asked.{has_members_in, no_members_in}
use Rattle.rx_adjudicate.proofs.agreed.AgreedBasis.has_members.Goals as goal

pub returns-in-Some : goal.returns-in-Some
returns-in-Some c =
    let is : IsAgreed c.args.self.now = rw c.self.view_is at c.self.invariant in
    let family = c.args.family.now in
    let there : family_at c.args.self.now family ≡ Some c.in-Some.book.now =
    ap (λ p. family_at p family) (sym c.self.view_is) ∙ sym c.in-Some.ensures in
    ap not (c.is_empty.ensures ∙ ap (λ ms. length ms == 0) c.members.ensures.value)
    ∙ sym (has_members_in c.args.self.now is family c.requires c.in-Some.book.now there)

pub returns-in-None : goal.returns-in-None
returns-in-None c =
    let is : IsAgreed c.args.self.now = rw c.self.view_is at c.self.invariant in
    let family = c.args.family.now in
    let none : family_at c.args.self.now family ≡ None =
    ap (λ p. family_at p family) (sym c.self.view_is) ∙ sym c.in-None.ensures in
    sym (no_members_in c.args.self.now is family c.requires none)
