use Rattle.std.proofs.Common.{◌≡◌, Some, None, sym, ◌∙◌}
use Rattle.rx_books_family.specs.Shelves.{ShelfParts, family_place}
use Rattle.rx_books_store.specs.WholeBooks.{beside}
use Rattle.rx_books_store.proofs.WholeBooks.{family_beside, family_placed}
use Rattle.rx_books_store.proofs.whole.Whole.family_deductible.Goals as goal

pub item_of-requires : goal.item_of-requires
item_of-requires c = c.self.invariant.shelf.families_rise

pub returns-in-Some : goal.returns-in-Some
returns-in-Some c =
    let s : ShelfParts = beside c.self.inside.books.now.books c.self.inside.keys.now c.self.inside.families.now in
    let at : family_place s c.args.family.now ≡ Some c.in-Some.place.now = sym c.in-Some.ensures in
    rw (← c.self.view_is) (c.family_deductible_held.ensures ∙ family_placed s c.self.invariant c.args.family.now c.in-Some.place.now at)

pub returns-in-None : goal.returns-in-None
returns-in-None c =
    let s : ShelfParts = beside c.self.inside.books.now.books c.self.inside.keys.now c.self.inside.families.now in
    let at : family_place s c.args.family.now ≡ None = sym c.in-None.ensures in
    rw (← c.self.view_is) (c.family_deductible.ensures ∙ family_beside s c.self.invariant c.args.family.now at)
