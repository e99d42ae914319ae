use Rattle.std.proofs.Common.{true, false, refl, ◌∙◌}
use Rattle.std.specs.List.{list_all}
use Rattle.rx_fields.specs.Order.{id_cmp}
use Rattle.rx_sorted.specs.Ascending.{item_at}
use Rattle.rx_books_family.specs.FamilyBook.{FamilyBook}
use Rattle.rx_books_family.specs.Shelves.{ShelfParts, is_family_out, place_family}
use Rattle.rx_books_shelf.proofs.ShelfKept.{named_out_first, shelf_parts}
use Rattle.rx_books_shelf.proofs.TakenPlaces.{families_out, keys_out}
use Rattle.rx_books_shelf.proofs.shelf.Shelf.all_out.Goals as goal

pub returns-in_err-key : goal.returns-in_err-key
returns-in_err-key c =
    let s : ShelfParts = shelf_parts c.self.inside.books.books c.self.inside.keys c.self.inside.families in
    let p = c.args.parcel.now in
    let two = list_all (λ (b : FamilyBook). is_family_out (item_at id_cmp place_family s.families b.family)) p.families in
    rw (← c.self.view_is, c.from_residual.ensures) (named_out_first s p c.keys.result.now p.families false two c.keys.ensures.value refl
    (c.in_err-key.ensures ∙ keys_out s.keys c.keys.result.now) refl)

pub returns-in_err-family : goal.returns-in_err-family
returns-in_err-family c =
    let s : ShelfParts = shelf_parts c.self.inside.books.books c.self.inside.keys c.self.inside.families in
    rw (← c.self.view_is, c.from_residual-in_err-family.ensures)
    (named_out_first s c.args.parcel.now c.keys.result.now c.families.result.now true false
    c.keys.ensures.value c.families.ensures.value (c.in_ok-key.ensures ∙ keys_out s.keys c.keys.result.now)
    (c.in_err-family.ensures ∙ families_out s.families c.families.result.now))

pub returns : goal.returns
returns c =
    let s : ShelfParts = shelf_parts c.self.inside.books.books c.self.inside.keys c.self.inside.families in
    rw (← c.self.view_is) (named_out_first s c.args.parcel.now c.keys.result.now c.families.result.now true true
    c.keys.ensures.value c.families.ensures.value (c.in_ok-key.ensures ∙ keys_out s.keys c.keys.result.now)
    (c.in_ok-family.ensures ∙ families_out s.families c.families.result.now))
