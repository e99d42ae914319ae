use Rattle.std.proofs.Common.{◌≡◌, Bool, true, false, sym, ap, ◌∙◌}
use Rattle.std.specs.Prelude.{◌&&◌}
use Rattle.std.specs.List.{list_all}
use Rattle.rx_ledger.specs.Ledger.{Ledger}
use Rattle.rx_books_family.specs.Amended.{is_among, members_held}
use Rattle.rx_books_family.specs.Shelves.{ShelfParts}
use Rattle.rx_books_family.proofs.AmendedTests.{members_told}
use Rattle.rx_books_store.specs.WholeBooks.{beside, has_unplaced}
use Rattle.rx_books_store.proofs.whole.Whole.are_members_in.Goals as goal

pub returns-then-has_unplaced : goal.returns-then-has_unplaced
returns-then-has_unplaced c =
    let s : ShelfParts = beside c.self.inside.books.now.books c.self.inside.keys.now c.self.inside.families.now in
    let L : Ledger = c.args.other.now.ledger in
    let held : Bool = list_all (λ p. list_all (is_among L.members) (members_held p)) s.families in
    let first : true ≡ list_all (has_unplaced L s.families) s.rest.members =
    sym c.if-has_unplaced.true ∙ c.has_unplaced.ensures ∙ ap (list_all (has_unplaced L s.families)) c.members.ensures.value in
    rw (← c.self.view_is) (c.has_held.ensures ∙ ap (λ t. t && held) first
    ∙ members_told s c.self.invariant.shelf (is_among L.members))

pub returns-else-has_unplaced : goal.returns-else-has_unplaced
returns-else-has_unplaced c =
    let s : ShelfParts = beside c.self.inside.books.now.books c.self.inside.keys.now c.self.inside.families.now in
    let L : Ledger = c.args.other.now.ledger in
    let held : Bool = list_all (λ p. list_all (is_among L.members) (members_held p)) s.families in
    let first : false ≡ list_all (has_unplaced L s.families) s.rest.members =
    sym c.if-has_unplaced.false ∙ c.has_unplaced.ensures ∙ ap (list_all (has_unplaced L s.families)) c.members.ensures.value in
    rw (← c.self.view_is) (c.if-has_unplaced.false ∙ ap (λ t. t && held) first
    ∙ members_told s c.self.invariant.shelf (is_among L.members))
