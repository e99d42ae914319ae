use Rattle.std.proofs.Common.{◌≡◌, Some, None, sym, ap, ◌∙◌}
use Rattle.rx_ledger.specs.Ledger.{rows_of}
use Rattle.rx_books_parcel.specs.Parcels.{family_at, ledger_in}
use Rattle.rx_adjudicate.specs.Scopes.{IsAgreed, used_over}
use Rattle.rx_adjudicate.proofs.Asked.{nobody_of, person_of, used_here}
use Rattle.rx_adjudicate.proofs.agreed.AgreedBasis.used.Goals as goal

pub used_in-requires : goal.used_in-requires
used_in-requires c =
    let is : IsAgreed c.args.self.now = rw c.self.view_is at c.self.invariant in
    let family = c.args.key.now.family in
    let there : family_at c.args.self.now family ≡ Some c.in-Some.book.now =
    ap (λ p. family_at p family) (sym c.self.view_is) ∙ sym c.in-Some.ensures in
    person_of c.args.self.now is family c.requires.member c.args.key.now.person c.requires.listed c.in-Some.book.now there

pub unreachable-requires : goal.unreachable-requires
unreachable-requires c =
    let is : IsAgreed c.args.self.now = rw c.self.view_is at c.self.invariant in
    let family = c.args.key.now.family in
    let none : family_at c.args.self.now family ≡ None =
    ap (λ p. family_at p family) (sym c.self.view_is) ∙ sym c.in-None.ensures in
    nobody_of c.args.self.now is family c.requires.member c.args.key.now.person c.requires.listed none

pub returns : goal.returns
returns c =
    let is : IsAgreed c.args.self.now = rw c.self.view_is at c.self.invariant in
    let family = c.args.key.now.family in
    let person = c.args.key.now.person in
    let there : family_at c.args.self.now family ≡ Some c.in-Some.book.now =
    ap (λ p. family_at p family) (sym c.self.view_is) ∙ sym c.in-Some.ensures in
    c.used_in.ensures ∙ sym (used_here c.args.self.now is family c.requires.member c.in-Some.book.now there person)
    ∙ ap (λ s. used_over s (rows_of (ledger_in c.args.self.now) family) person) c.requires.period
