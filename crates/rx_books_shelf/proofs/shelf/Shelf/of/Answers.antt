use Rattle.std.proofs.Common.{◌≡◌, false, sym, ap, subst, ◌∙◌}
use Rattle.std.specs.List.{All, Contains}
use Rattle.std.proofs.lemmas.Result.{IfOk-weaker}
use Rattle.rx_books_family.specs.Books.{Book}
use Rattle.rx_books_family.specs.Shelves.{ShelfParts, has_slot, is_out}
use Rattle.rx_books_shelf.specs.Opened.{is_named_by, shelf_of}
use Rattle.rx_books_shelf.proofs.OpenedShelf.{none_out, opened_from, slots_opened}
use Rattle.rx_books_shelf.proofs.shelf.Shelf.of.Goals as goal

pub over-requires-clause-slots : goal.over-requires-clause-slots
over-requires-clause-slots c =
    subst (All (Contains c.in_ok-books.books.slots)) (c.deref.ensures.value ∙ sym c.deref-2.ensures.value) c.in_ok-books.ensures.slots

pub returns-clause-values : goal.returns-clause-values
returns-clause-values c = opened_from c.args.books c.in_ok-books.books.books c.args.footprints.now c.over.result
    c.in_ok-books.ensures.same c.over.ensures.value c.over.ensures.within

pub returns-clause-slots : goal.returns-clause-slots
returns-clause-slots c =
    let d = c.in_ok-books.books.books in
    let fs = c.args.footprints.now in
    IfOk-weaker c.over.result (λ s. s ≡ shelf_of d fs) (λ s. (b : Book) → has_slot s b ≡ is_named_by fs b)
    (λ s is b. ap (λ t. has_slot t b) is ∙ slots_opened d fs c.in_ok-keys.ensures.within b) c.over.ensures.value

pub returns-clause-inside : goal.returns-clause-inside
returns-clause-inside c =
    let d = c.in_ok-books.books.books in
    let fs = c.args.footprints.now in
    IfOk-weaker c.over.result (λ s. s ≡ shelf_of d fs) (λ (s : ShelfParts). (b : Book) → is_out s b ≡ false)
    (λ s is b. ap (λ t. is_out t b) is ∙ none_out d fs b) c.over.ensures.value
