use Rattle.std.proofs.Common.{◌≡◌, map, refl, sym, ap, subst, ◌∙◌}
use Rattle.std.specs.List.{All}
use Rattle.rx_fields.specs.Order.{id_cmp}
use Rattle.rx_sorted.specs.Ascending.{IsAscending, itself}
use Rattle.rx_books_family.specs.FamilyBook.{FamilyBook, family_of}
use Rattle.rx_books_shelf.specs.Opened.{opened_book}
use Rattle.rx_books_shelf.proofs.PutBooks.{all_map}
use Rattle.rx_books_shelf.proofs.ShelfKept.{ascending_changed}
use Rattle.rx_books_shelf.proofs.shelf.placed_families.Goals as goal

pub family_places-requires-clause-rise : goal.family_places-requires-clause-rise
family_places-requires-clause-rise c =
    let d = c.args.books.now.books in
    let bf = c.in_ok-gathered.ensures.value ∙ ap (map (opened_book d)) c.deref.ensures.value in
    subst (IsAscending id_cmp family_of) (sym bf)
    (ascending_changed id_cmp itself family_of (opened_book d) (λ f. refl) c.in_ok-families.families.items c.in_ok-families.ensures.rise)

pub family_places-requires-clause-own : goal.family_places-requires-clause-own
family_places-requires-clause-own c =
    let d = c.args.books.now.books in
    let P : FamilyBook → Type 0 = λ b. b ≡ opened_book d b.family in
    subst (All P) (sym c.in_ok-gathered.ensures.value) (all_map P (opened_book d) (λ f. refl) c.deref.result.now)
