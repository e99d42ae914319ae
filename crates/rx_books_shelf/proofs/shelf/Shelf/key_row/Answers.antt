use Rattle.std.proofs.Common.{◌≡◌, Some, None, sym, ap, ◌∙◌}
use Rattle.rx_ledger.specs.Ledger.{row_under}
use Rattle.rx_books_family.specs.Books.{OfKey, book}
use Rattle.rx_books_family.specs.Shelves.{ShelfParts, key_place, key_value_or}
use Rattle.rx_books_family.proofs.Valued.{key_row_beside, key_row_held}
use Rattle.rx_books_shelf.proofs.ShelfKept.{shelf_parts}
use Rattle.rx_books_shelf.proofs.shelf.Shelf.key_row.Goals as goal

pub returns-in-Some : goal.returns-in-Some
returns-in-Some c =
    let s : ShelfParts = shelf_parts c.self.inside.books.books c.self.inside.keys c.self.inside.families in
    let k = c.args.key.now in
    let at : key_place s k ≡ Some c.in-Some.place.now = sym c.in-Some.ensures in
    rw (← c.self.view_is) (c.row_held.ensures ∙ sym (ap (λ q. row_under (key_value_or q (book (OfKey k) s.rest)) k) at
    ∙ key_row_held s c.self.invariant.0 k c.in-Some.place.now at))

pub returns-in-None : goal.returns-in-None
returns-in-None c =
    let s : ShelfParts = shelf_parts c.self.inside.books.books c.self.inside.keys c.self.inside.families in
    let k = c.args.key.now in
    let at : key_place s k ≡ None = sym c.in-None.ensures in
    rw (← c.self.view_is) (c.copied.ensures ∙ c.row.ensures ∙ sym (ap (λ q. row_under (key_value_or q (book (OfKey k) s.rest)) k) at
    ∙ key_row_beside s c.self.invariant.0 k))
