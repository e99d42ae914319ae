use Rattle.std.proofs.Common.{◌≡◌, Some, None, sym, ap, ◌∙◌}
use Rattle.std.specs.Bool.{then_some}
use Rattle.std.specs.Option.{option_and_then}
use Rattle.rx_ledger.specs.Ledger.{row_under}
use Rattle.rx_ledger.specs.Rows.{claimed_by}
use Rattle.rx_books_family.specs.Books.{OfFamily, book}
use Rattle.rx_books_family.specs.Shelves.{ShelfParts, family_place, family_value_or}
use Rattle.rx_books_family.proofs.Valued.{family_row_beside}
use Rattle.rx_books_shelf.proofs.ShelfKept.{shelf_parts}
use Rattle.rx_books_shelf.proofs.shelf.Shelf.family_row.Goals as goal

pub returns-in-Some : goal.returns-in-Some
returns-in-Some c =
    let s : ShelfParts = shelf_parts c.self.inside.books.books c.self.inside.keys c.self.inside.families in
    let k = c.args.key.now in
    let f = c.args.family.now in
    let at : family_place s f ≡ Some c.in-Some.place.now = sym c.in-Some.ensures in
    rw (← c.self.view_is) (c.held_row.ensures ∙ sym (ap (λ q. row_under (family_value_or q (book (OfFamily f) s.rest)) k) at))

pub returns-in-None : goal.returns-in-None
returns-in-None c =
    let s : ShelfParts = shelf_parts c.self.inside.books.books c.self.inside.keys c.self.inside.families in
    let k = c.args.key.now in
    let f = c.args.family.now in
    let at : family_place s f ≡ None = sym c.in-None.ensures in
    rw (← c.self.view_is) (c.claimed_row.ensures ∙ ap (option_and_then (λ r. then_some (claimed_by f r) r)) (c.copied.ensures
    ∙ c.row.ensures)
    ∙ sym (ap (λ q. row_under (family_value_or q (book (OfFamily f) s.rest)) k) at ∙ family_row_beside s c.self.invariant.0 f k))
