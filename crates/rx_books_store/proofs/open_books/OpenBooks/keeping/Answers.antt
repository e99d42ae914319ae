use Rattle.std.proofs.Common.{sym, subst, ap, ◌∙◌}
use Rattle.std.specs.Arc.{arc_value}
use Rattle.rx_books_store.specs.Kept.{IsKept}
use Rattle.rx_books_store.specs.OpenBooks.{OpenParts}
use Rattle.rx_books_store.proofs.KeptLines.{none_stand}
use Rattle.rx_books_store.proofs.open_books.OpenBooks.keeping.Goals as goal

pub keep-requires : goal.keep-requires
keep-requires c =
    let inside = c.self.inside in
    let none = ap (λ (o : OpenParts). o.slots) c.self.view_is ∙ c.requires.none_open in
    let rows = ap (λ (o : OpenParts). o.books.ledger.rows) (sym c.self.view_is) ∙ none_stand inside.opening.rows inside.changed none in
    subst (IsKept (arc_value c.args.kept)) rows c.requires.kept
