use Rattle.std.proofs.Common.{◌≡◌, [], map, refl, sym, ap, subst, ◌∙◌}
use Rattle.std.specs.List.{All}
use Rattle.rx_fields.specs.Order.{id_cmp}
use Rattle.rx_sorted.specs.Ascending.{IsAscending, itself}
use Rattle.rx_ledger.specs.Ledger.{members_of}
use Rattle.rx_books_family.specs.FamilyBook.{FamilyBook, empty_book, family_of}
use Rattle.rx_books_shelf.specs.Gathered.{with_members, with_rows}
use Rattle.rx_sorted.proofs.AllSlots.{map_map}
use Rattle.rx_books_shelf.proofs.PutBooks.{all_map}
use Rattle.rx_books_shelf.proofs.ShelfKept.{ascending_changed}
use Rattle.rx_books_shelf.proofs.gathering.gathered.Goals as goal

pub put_members-requires-clause-rise : goal.put_members-requires-clause-rise
put_members-requires-clause-rise c =
    subst (IsAscending id_cmp family_of) (sym c.in_ok-books.ensures)
    (ascending_changed id_cmp itself family_of (empty_book c.period.result) (λ f. refl) c.args.families.now c.requires)

pub put_members-requires-clause-none : goal.put_members-requires-clause-none
put_members-requires-clause-none c =
    subst (All (λ (b : FamilyBook). b.members ≡ [])) (sym c.in_ok-books.ensures)
    (all_map (λ (b : FamilyBook). b.members ≡ []) (empty_book c.period.result) (λ f. refl) c.args.families.now)

pub put_rows-requires-clause-rise : goal.put_rows-requires-clause-rise
put_rows-requires-clause-rise c =
    let L = c.args.open.now.books.ledger in
    let new : c.put_members.new.books.items ≡ map (with_members L) (map (empty_book c.period.result) c.args.families.now) =
    c.in_ok-put_members.ensures ∙ ap (map (with_members L)) c.in_ok-books.ensures in
    subst (IsAscending id_cmp family_of) (sym new)
    (ascending_changed id_cmp family_of family_of (with_members L) (λ b. refl) (map (empty_book c.period.result) c.args.families.now)
    (ascending_changed id_cmp itself family_of (empty_book c.period.result) (λ f. refl) c.args.families.now c.requires))

pub put_rows-requires-clause-members : goal.put_rows-requires-clause-members
put_rows-requires-clause-members c =
    let L = c.args.open.now.books.ledger in
    let P : FamilyBook → Type 0 = λ b. b.members ≡ members_of L b.family in
    subst (All P) (sym c.in_ok-put_members.ensures) (all_map P (with_members L) (λ b. refl) c.in_ok-books.books.items)

pub put_rows-requires-clause-none : goal.put_rows-requires-clause-none
put_rows-requires-clause-none c =
    let L = c.args.open.now.books.ledger in
    let P : FamilyBook → Type 0 = λ b. b.rows ≡ [] in
    let new : c.put_members.new.books.items ≡ map (λ f. with_members L (empty_book c.period.result f)) c.args.families.now =
    c.in_ok-put_members.ensures ∙ ap (map (with_members L)) c.in_ok-books.ensures
    ∙ map_map (with_members L) (empty_book c.period.result) c.args.families.now in
    subst (All P) (sym new) (all_map P (λ f. with_members L (empty_book c.period.result f)) (λ f. refl) c.args.families.now)

pub returns-clause-value : goal.returns-clause-value
returns-clause-value c =
    let b = c.args.open.now.books in
    let L = b.ledger in
    let p = c.period.result in
    c.in_ok-put_rows.ensures
    ∙ ap (map (with_rows L)) (c.in_ok-put_members.ensures ∙ ap (map (with_members L)) c.in_ok-books.ensures)
    ∙ ap (map (with_rows L)) (map_map (with_members L) (empty_book p) c.args.families.now)
    ∙ map_map (with_rows L) (λ f. with_members L (empty_book p f)) c.args.families.now
    ∙ ap (λ q. map (λ f. with_rows L (with_members L (empty_book q f))) c.args.families.now) c.period.ensures.value
