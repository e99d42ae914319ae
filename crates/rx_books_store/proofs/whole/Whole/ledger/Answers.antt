use Rattle.std.proofs.Common.{◌≡◌, sym, ap, subst, ◌∙◌}
use Rattle.rx_ledger.specs.Ledger.{IsLedger, Ledger}
use Rattle.rx_books_family.specs.Amended.{amended, amended_members, amended_rows}
use Rattle.rx_books_family.specs.Shelves.{ShelfParts}
use Rattle.rx_books_family.proofs.Amended.{ledger_amended}
use Rattle.rx_books_family.proofs.BookValues.{ledger_path}
use Rattle.rx_books_store.specs.WholeBooks.{beside}
use Rattle.rx_books_store.proofs.whole.Whole.ledger.Goals as goal

pub from_lists-requires : goal.from_lists-requires
from_lists-requires c =
    let s : ShelfParts = beside c.self.inside.books.now.books c.self.inside.keys.now c.self.inside.families.now in
    let made : Ledger = record { members = c.in_ok-members.members; rows = c.in_ok-rows-2.rows } in
    let same : made ≡ amended s = ledger_path made (amended s)
    (c.in_ok-members.ensures ∙ ap (λ ms. amended_members ms s.families) c.members.ensures.value)
    (c.in_ok-rows-2.ensures ∙ ap (λ rs. amended_rows rs s.keys) c.in_ok-rows.ensures.value) in
    subst IsLedger (sym same) (ledger_amended s c.self.invariant.shelf c.self.invariant.agreed)
