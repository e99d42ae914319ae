use Rattle.std.proofs.Common.{◌≡◌, ◌∷◌, [], ◌++◌, List, append_assoc, Some, false, map, reverse, true, refl, sym, ap, subst, ◌∙◌}
use Rattle.std.specs.List.{All}
use Rattle.std.proofs.lemmas.List.{map-append, reverse-append}
use Rattle.std.proofs.lemmas.List.Elements.{All-cons, All-head}
use Rattle.rx_fields.specs.Order.{id_cmp}
use Rattle.rx_sorted.specs.Ascending.{IsAscending}
use Rattle.rx_sorted.proofs.Kept.{is_ascending-from_fact}
use Rattle.rx_ledger.proofs.Orders.{id_total}
use Rattle.rx_books_family.specs.FamilyBook.{FamilyBook, IsOwn, family_of}
use Rattle.rx_books_store.proofs.Figured.{all_back, all_front}
use Rattle.rx_books_family.specs.declared.place.FamilyPlace.{FamilyPlace}
use Rattle.rx_books_family.specs.Shelves.{place_family}
use Rattle.rx_books_shelf.specs.Opened.{opened_book, filled_place}
use Rattle.rx_sorted.proofs.AllSlots.{no_items}
use Rattle.rx_books_shelf.proofs.ShelfKept.{ascending_changed}
use Rattle.rx_books_shelf.proofs.placing.family_places.Goals as goal

pub summed-requires : goal.summed-requires
summed-requires c =
    let P : FamilyBook → Type 0 = λ b. b ≡ opened_book c.args.open.now.books b.family in
    let left : List FamilyBook = c.pop.new.self.items in
    let b : FamilyBook = c.in-Some.book in
    let is : c.books.books.items ≡ left ++ b ∷ [] = c.in-Some.ensures.items in
    All-head P b [] (all_back P left (b ∷ []) (subst (All P) is c.books.invariant.own))

pub books-preserved : goal.books-preserved
books-preserved c =
    let P : FamilyBook → Type 0 = λ b. b ≡ opened_book c.args.open.now.books b.family in
    let left : List FamilyBook = c.pop.new.self.items in
    let b : FamilyBook = c.in-Some.book in
    let before : List FamilyPlace = c.books.places.items in
    let is : c.books.books.items ≡ left ++ b ∷ [] = c.in-Some.ensures.items in
    let p : FamilyPlace = record { family = c.family.result; held = Some c.in_ok-summed.field-0 } in
    let placed : p ≡ filled_place b = (λ i. record { family = c.family.ensures i; held = Some (c.in_ok-summed.ensures i) }) in
    let items : c.push.new.self.items ≡ before ++ p ∷ [] = c.in_ok-push.ensures.items in
    let read = c.books.invariant.read in
    record {
      placed = ap (λ ps. map filled_place left ++ reverse ps) items
          ∙ ap (λ ps. map filled_place left ++ ps) (reverse-append before (p ∷ []))
          ∙ ap (λ q. map filled_place left ++ q ∷ reverse before) placed
          ∙ sym (append_assoc (map filled_place left) (filled_place b ∷ []) (reverse before))
          ∙ ap (λ ps. ps ++ reverse before) (sym (map-append filled_place left (b ∷ [])))
          ∙ ap (λ bs. map filled_place bs ++ reverse before) (sym is)
          ∙ c.books.invariant.placed;
      own = all_front P left (b ∷ []) (subst (All P) is c.books.invariant.own);
      read = (
        b ∷ read.0,
        read.1 ∙ ap (λ bs. bs ++ read.0) is ∙ append_assoc left (b ∷ []) read.0,
        All-cons IsOwn b read.0 c.members-own.ensures.within read.2,
      );
    }

pub unreachable-requires : goal.unreachable-requires
unreachable-requires c =
    let none : c.books.books.items ≡ [] = no_items c.books.books.items (sym c.books.books.ok.0 ∙ c.in_default.ensures.cases.0) in
    let all = c.reverse.ensures.items ∙ ap (λ bs. map filled_place bs ++ reverse c.books.places.items) (sym none)
    ∙ c.books.invariant.placed in
    let rise : IsAscending id_cmp place_family c.reverse.new.self.items =
    subst (IsAscending id_cmp place_family) (sym all)
    (ascending_changed id_cmp family_of place_family filled_place (λ b. refl) c.args.books.items c.requires.rise) in
    let e : false ≡ true = c.in-Err.ensures.ok ∙ is_ascending-from_fact id_cmp id_total place_family c.reverse.new.self.items rise in
    cc

pub returns-clause-own : goal.returns-clause-own
returns-clause-own c =
    let none : c.books.books.items ≡ [] = no_items c.books.books.items (sym c.books.books.ok.0 ∙ c.in_default.ensures.cases.0) in
    let read = c.books.invariant.read in
    subst (All IsOwn) (sym (read.1 ∙ ap (λ bs. bs ++ read.0) none)) read.2

pub returns-clause-value : goal.returns-clause-value
returns-clause-value c =
    let none : c.books.books.items ≡ [] = no_items c.books.books.items (sym c.books.books.ok.0 ∙ c.in_default.ensures.cases.0) in
    c.in-Ok.ensures.value ∙ c.reverse.ensures.items ∙ ap (λ bs. map filled_place bs ++ reverse c.books.places.items) (sym none)
    ∙ c.books.invariant.placed
