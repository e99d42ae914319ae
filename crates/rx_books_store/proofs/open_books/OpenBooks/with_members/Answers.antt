use Rattle.std.proofs.Common.{◌≡◌, ap, rules, sym, ◌∙◌}
use Rattle.rx_books_store.specs.OpenBooks.{OpenParts}
use Rattle.rx_books_store.proofs.KeptLines.{none_stand}
use Rattle.rx_books_store.proofs.open_books.OpenBooks.with_members.Goals as goal

pub returns : goal.returns
returns c =
    let inside = c.self.inside in
    let none = ap (λ (o : OpenParts). o.slots) c.self.view_is ∙ c.requires in
    let rows : c.args.self.now.books.ledger.rows ≡ inside.opening.rows =
    ap (λ (o : OpenParts). o.books.ledger.rows) (sym c.self.view_is) ∙ none_stand inside.opening.rows inside.changed none in
    rw rows (search rules)
