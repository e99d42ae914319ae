use Rattle.std.proofs.Common.{◌≡◌, List, true, sym, ap, subst, ◌∙◌}
use Rattle.std.specs.Prelude.{IfSome}
use Rattle.std.specs.List.{All}
use Rattle.rx_fields.specs.Order.{key_cmp}
use Rattle.rx_sorted.specs.Overlaid.{overlaid}
use Rattle.rx_ledger.specs.declared.row.Row.{Row}
use Rattle.rx_ledger.specs.Ledger.{IsLedger, is_listed}
use Rattle.rx_ledger.specs.Rows.{member_of_row, row_key}
use Rattle.rx_books_family.specs.Books.{book}
use Rattle.rx_books_store.specs.LedgerBooks.{LedgerBooks}
use Rattle.rx_books_store.specs.OpenBooks.{OpenParts}
use Rattle.rx_books_family.specs.declared.place.KeyPlace.{KeyPlace}
use Rattle.rx_books_family.specs.Shelves.{AreAllAgreed, HoldsOwnRow, ShelfParts, place_key, row_held, value_of}
use Rattle.rx_books_shelf.specs.Closed.{HasSlot, are_members_kept}
use Rattle.rx_books_shelf.proofs.ClosedShelf.{places_listed, values_closed}
use Rattle.rx_books_shelf.proofs.ShelfKept.{shelf_parts}
use Rattle.rx_books_shelf.proofs.shelf.Shelf.written.Goals as goal

pub brought-requires-clause-slots : goal.brought-requires-clause-slots
brought-requires-clause-slots c = subst (All (HasSlot c.self.inside.books.slots)) (sym c.as_slice.ensures.value) c.self.invariant.1

pub brought-requires-clause-rows : goal.brought-requires-clause-rows
brought-requires-clause-rows c = subst (All HoldsOwnRow) (sym c.as_slice.ensures.value) c.self.invariant.0.rows_own

pub brought-requires-clause-listed : goal.brought-requires-clause-listed
brought-requires-clause-listed c =
    let s : ShelfParts = shelf_parts c.self.inside.books.books c.self.inside.keys c.self.inside.families in
    let agreed : AreAllAgreed (value_of s) = rw (← c.self.view_is) at c.requires.agreed in
    let kept : are_members_kept s ≡ true = rw (← c.self.view_is) at c.requires.members in
    subst (All (λ p. IfSome (row_held p) (λ (r : Row). is_listed s.rest (member_of_row r) ≡ true))) (sym c.as_slice.ensures.value)
    (places_listed s c.self.invariant.0 agreed kept)

pub brought-requires-clause-in_order : goal.brought-requires-clause-in_order
brought-requires-clause-in_order c = c.self.invariant.0.rest_in_order

pub returns-clause-within : goal.returns-clause-within
returns-clause-within c = subst (λ (b : LedgerBooks). IsLedger b.ledger) (sym c.close.ensures) c.brought.ensures.in_order

pub returns-clause-period : goal.returns-clause-period
returns-clause-period c =
    rw (← c.self.view_is) (ap (λ (b : LedgerBooks). b.period) (c.close.ensures ∙ ap (λ (o : OpenParts). o.books) c.brought.ensures.value))

pub returns-clause-values : goal.returns-clause-values
returns-clause-values c =
    let s : ShelfParts = shelf_parts c.self.inside.books.books c.self.inside.keys c.self.inside.families in
    let agreed : AreAllAgreed (value_of s) = rw (← c.self.view_is) at c.requires.agreed in
    let kept : are_members_kept s ≡ true = rw (← c.self.view_is) at c.requires.members in
    rw (← c.self.view_is) (λ b.
    ap (λ (x : LedgerBooks). book b x.ledger) (c.close.ensures ∙ ap (λ (o : OpenParts). o.books) c.brought.ensures.value)
    ∙ ap (λ (ks : List KeyPlace). book b (record {
      members = s.rest.members;
      rows = overlaid key_cmp row_key place_key row_held
          s.rest.rows ks;
    }))
    c.as_slice.ensures.value
    ∙ values_closed s c.self.invariant.0 agreed kept b)
