use Rattle.std.proofs.Common.{◌≡◌, ap, subst, sym, ◌∙◌}
use Rattle.std.specs.Prelude.{IfOk}
use Rattle.rx_ledger.specs.Ledger.{Ledger}
use Rattle.rx_books_store.specs.OpenBooks.{OpenParts}
use Rattle.rx_books_store.proofs.KeptLines.{none_stand}
use Rattle.rx_books_store.proofs.open_books.OpenBooks.summed_copy.Goals as goal

pub returns : goal.returns
returns g c =
    let inside = c.self.inside in
    let none = ap (λ (o : OpenParts). o.slots) c.self.view_is ∙ c.requires in
    let own : c.args.self.now.books.ledger ≡ inside.opening =
    ap (λ (o : OpenParts). o.books.ledger) (sym c.self.view_is)
    ∙ (λ i. record { members = inside.opening.members; rows = none_stand inside.opening.rows inside.changed none i }) in
    subst (λ (L : Ledger). IfOk c.added_up_in_parts.result (λ b. b.books ≡ record { period = c.args.period; ledger = L }))
    (c.in_ok-opening.ensures ∙ sym own) c.added_up_in_parts.ensures.books
