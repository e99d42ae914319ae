use Rattle.std.proofs.Common.{◌≡◌, Bool, true, false, refl, sym, ap, ◌∙◌}
use Rattle.std.specs.Prelude.{◌&&◌}
use Rattle.std.specs.List.{list_all}
use Rattle.rx_ledger.specs.Ledger.{Ledger}
use Rattle.rx_books_family.specs.Shelves.{ShelfParts, row_held}
use Rattle.rx_books_family.proofs.AmendedTests.{rows_told}
use Rattle.rx_books_store.specs.WholeBooks.{beside, has_if_row, has_row, has_unkeyed}
use Rattle.rx_books_store.proofs.whole.Whole.are_rows_in.Goals as goal

pub returns-then-has_placed_rows : goal.returns-then-has_placed_rows
returns-then-has_placed_rows c =
    let s : ShelfParts = beside c.self.inside.books.now.books c.self.inside.keys.now c.self.inside.families.now in
    let L : Ledger = c.args.other.now.ledger in
    let others : Bool = list_all (has_unkeyed L s.keys) s.rest.rows in
    let first : true ≡ list_all (λ p. has_if_row L (row_held p)) s.keys = sym c.if-has_placed_rows.true ∙ c.has_placed_rows.ensures in
    rw (← c.self.view_is) (c.has_unkeyed.ensures ∙ ap (λ t. t && others) first
    ∙ rows_told s c.self.invariant.shelf (has_row L) (has_if_row L) refl (λ r. refl))

pub returns-else-has_placed_rows : goal.returns-else-has_placed_rows
returns-else-has_placed_rows c =
    let s : ShelfParts = beside c.self.inside.books.now.books c.self.inside.keys.now c.self.inside.families.now in
    let L : Ledger = c.args.other.now.ledger in
    let others : Bool = list_all (has_unkeyed L s.keys) s.rest.rows in
    let first : false ≡ list_all (λ p. has_if_row L (row_held p)) s.keys = sym c.if-has_placed_rows.false ∙ c.has_placed_rows.ensures in
    rw (← c.self.view_is) (c.if-has_placed_rows.false ∙ ap (λ t. t && others) first
    ∙ rows_told s c.self.invariant.shelf (has_row L) (has_if_row L) refl (λ r. refl))
