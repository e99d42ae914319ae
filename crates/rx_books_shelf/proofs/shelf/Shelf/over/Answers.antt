use Rattle.std.proofs.Common.{map, refl, sym, subst}
use Rattle.std.specs.List.{All}
use Rattle.rx_books_family.specs.Shelves.{IsShelf}
use Rattle.rx_books_shelf.specs.Closed.{HasSlot}
use Rattle.rx_books_shelf.specs.Opened.{all_families, opened_book}
use Rattle.rx_books_shelf.proofs.OpenedShelf.{opened_parts, shelf_opened, slots_there}
use Rattle.rx_books_shelf.proofs.shelf.Shelf.over.Goals as goal

pub invariant_of-result : goal.invariant_of-result
invariant_of-result c =
    let b = c.args.books.books in
    let named = c.args.footprints.now in
    let families = all_families named in
    let opened = opened_parts b b named c.args.keys.now families (map (opened_book b) families) c.in_ok-keys.keys
    c.in_ok-families.families refl c.requires.keys refl c.in_ok-keys.ensures refl c.in_ok-families.ensures.value in (
      subst IsShelf (sym opened) (shelf_opened b named c.in_ok-families.ensures.within c.in_ok-families.ensures.own),
      subst (All (HasSlot c.args.books.slots)) (sym c.in_ok-keys.ensures)
          (slots_there c.args.books.slots b c.args.keys.now c.requires.slots),
    )

pub returns-clause-value : goal.returns-clause-value
returns-clause-value c =
    let b = c.args.books.books in
    let families = all_families c.args.footprints.now in
    opened_parts b b c.args.footprints.now c.args.keys.now families (map (opened_book b) families) c.in_ok-keys.keys
    c.in_ok-families.families refl c.requires.keys refl c.in_ok-keys.ensures refl c.in_ok-families.ensures.value
