use Rattle.std.proofs.Common.{◌≡◌, Some, true, sym, ap, subst, ◌∙◌}
use Rattle.std.specs.Prelude.{IfSome, slice_get}
use Rattle.rx_ledger.specs.declared.row.Row.{Row}
use Rattle.rx_ledger.specs.Ledger.{is_listed, is_taken}
use Rattle.rx_ledger.specs.Rows.{member_of_row}
use Rattle.rx_books_store.specs.OpenBooks.{OpenParts, open_with}
use Rattle.rx_books_shelf.proofs.Brought.{brought_row, emptied_free, own_key}
use Rattle.rx_books_shelf.proofs.closing.bring.Goals as goal

pub unreachable-requires : goal.unreachable-requires
unreachable-requires c = c.in_default.ensures.absent c.requires.slot

pub fill_slot-requires-clause-slot : goal.fill_slot-requires-clause-slot
fill_slot-requires-clause-slot c =
    let own = own_key c.args.place.now c.in-Some-row_held.row c.requires.row (sym c.in-Some-row_held.ensures) in
    ap (λ (o : OpenParts). slice_get o.slots c.in-Some.slot) c.empty_slot.ensures ∙ c.in-Some.ensures.found ∙ ap Some (sym own)

pub fill_slot-requires-clause-free : goal.fill_slot-requires-clause-free
fill_slot-requires-clause-free c =
    let own = own_key c.args.place.now c.in-Some-row_held.row c.requires.row (sym c.in-Some-row_held.ensures) in
    ap (λ (o : OpenParts). is_taken o.books.ledger c.in-Some-row_held.row.key) c.empty_slot.ensures
    ∙ emptied_free c.args.books.now c.in-Some-row_held.row.key c.args.place.now.key own

pub fill_slot-requires-clause-listed : goal.fill_slot-requires-clause-listed
fill_slot-requires-clause-listed c =
    let r : Row = c.in-Some-row_held.row in
    let listed : is_listed c.args.books.now.books.ledger (member_of_row r) ≡ true =
    subst (λ o. IfSome o (λ (x : Row). is_listed c.args.books.now.books.ledger (member_of_row x) ≡ true)) (sym c.in-Some-row_held.ensures)
    c.requires.listed in
    ap (λ (o : OpenParts). is_listed o.books.ledger (member_of_row r)) c.empty_slot.ensures ∙ listed

pub returns : goal.returns
returns c =
    let r : Row = c.in-Some-row_held.row in
    c.fill_slot.ensures ∙ ap (λ (o : OpenParts). open_with o r) c.empty_slot.ensures
    ∙ brought_row c.args.books.now c.args.place.now r c.requires.rise c.requires.row (sym c.in-Some-row_held.ensures)
