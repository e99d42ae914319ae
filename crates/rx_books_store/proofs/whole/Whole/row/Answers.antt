use Rattle.std.proofs.Common.{◌≡◌, Some, None, sym, ap, ◌∙◌}
use Rattle.rx_fields.specs.Order.{key_cmp}
use Rattle.rx_sorted.specs.Overlaid.{found_under}
use Rattle.rx_ledger.specs.Ledger.{row_under}
use Rattle.rx_ledger.specs.Rows.{row_key}
use Rattle.rx_books_family.specs.Shelves.{ShelfParts, key_place, place_key, row_held}
use Rattle.rx_books_family.proofs.Amended.{row_found}
use Rattle.rx_books_store.specs.WholeBooks.{beside}
use Rattle.rx_books_store.proofs.whole.Whole.row.Goals as goal

pub item_of-requires : goal.item_of-requires
item_of-requires c = c.self.invariant.shelf.keys_rise

pub returns-in-Some : goal.returns-in-Some
returns-in-Some c =
    let s : ShelfParts = beside c.self.inside.books.now.books c.self.inside.keys.now c.self.inside.families.now in
    let k = c.args.key.now in
    let at : key_place s k ≡ Some c.in-Some.place.now = sym c.in-Some.ensures in
    rw (← c.self.view_is) (c.row.ensures ∙ sym (row_found s c.self.invariant.shelf k
    ∙ ap (λ q. found_under key_cmp row_key place_key row_held q (row_under s.rest k)) at))

pub returns-in-None : goal.returns-in-None
returns-in-None c =
    let s : ShelfParts = beside c.self.inside.books.now.books c.self.inside.keys.now c.self.inside.families.now in
    let k = c.args.key.now in
    let at : key_place s k ≡ None = sym c.in-None.ensures in
    rw (← c.self.view_is) (c.row-in-None.ensures ∙ sym (row_found s c.self.invariant.shelf k
    ∙ ap (λ q. found_under key_cmp row_key place_key row_held q (row_under s.rest k)) at))
