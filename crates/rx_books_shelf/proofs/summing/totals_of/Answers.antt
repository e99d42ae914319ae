use Rattle.std.proofs.Common.{◌≡◌, Some, map, sym, ap, subst, ◌∙◌}
use Rattle.std.specs.Prelude.{slice_get}
use Rattle.std.specs.List.{All, Contains}
use Rattle.rx_ledger.specs.Sums.{family_deductible_in, out_of_pocket_in}
use Rattle.rx_books_family.specs.FamilyBook.{FamilyBook}
use Rattle.rx_books_store.specs.BooksText.{families_of}
use Rattle.rx_books_store.specs.LedgerBooks.{has_members}
use Rattle.rx_books_shelf.specs.Gathered.{own_deductible}
use Rattle.rx_books_shelf.proofs.Summed.{all_among, no_claims, totals_stored}
use Rattle.rx_books_shelf.proofs.summing.totals_of.Goals as goal

pub deductibles_of-requires : goal.deductibles_of-requires
deductibles_of-requires c =
    let b : FamilyBook = c.args.book.now in
    let L = c.args.books.now.books.ledger in
    let members = c.members.ensures.value ∙ ap (λ (x : FamilyBook). x.members) c.requires in
    subst (All (Contains L.members)) (sym members) (all_among L b.family)

pub returns-in-Some : goal.returns-in-Some
returns-in-Some c =
    let d = c.args.books.now.books in
    let b : FamilyBook = c.args.book.now in
    let found : slice_get (families_of d.ledger.members) c.in-Some.at ≡ Some b.family = c.in-Some.ensures.found
    ∙ ap Some c.family.ensures in
    totals_stored d b c.requires c.in_ok-deductibles.deductibles.items
    (c.in_ok-deductibles.ensures ∙ ap (map (own_deductible d)) c.members.ensures.value)
    c.out_of_pocket_at.result c.family_deductible_at.result
    (rw found at c.out_of_pocket_at.ensures) (rw found at c.family_deductible_at.ensures)

pub returns-in-None : goal.returns-in-None
returns-in-None c =
    let d = c.args.books.now.books in
    let b : FamilyBook = c.args.book.now in
    let none = ap (has_members d.ledger) (sym c.family.ensures) ∙ sym c.in-None.ensures.listed in
    let rows = no_claims d b c.requires c.members.ensures.within none in
    totals_stored d b c.requires c.in_ok-deductibles.deductibles.items
    (c.in_ok-deductibles.ensures ∙ ap (map (own_deductible d)) c.members.ensures.value)
    0 0 (sym (ap (out_of_pocket_in d.period) rows)) (sym (ap (family_deductible_in d.period) rows))
