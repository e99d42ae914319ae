use Rattle.std.proofs.Common.{◌≡◌, sym, subst, ap, ◌∙◌}
use Rattle.rx_fields.specs.Order.{key_cmp}
use Rattle.rx_sorted.specs.Ascending.{IsAscending}
use Rattle.rx_d0_values.proofs.Decided.{option_decides}
use Rattle.rx_ledger.specs.Ledger.{is_taken, row_under}
use Rattle.rx_ledger.specs.Rows.{row_key}
use Rattle.rx_ledger.proofs.Decided.{row_decides}
use Rattle.rx_books_store.specs.OpenBooks.{OpenParts, open_over}
use Rattle.rx_books_store.specs.Store.{standing}
use Rattle.rx_books_store.proofs.SameRows.{from_not}
use Rattle.rx_books_store.proofs.Stored.{row-at_slot, slot-at}
use Rattle.rx_books_store.proofs.Taken.{key-there, over-same, over-without, without-free}
use Rattle.rx_books_store.proofs.open_books.OpenBooks.write_slot.Goals as goal

pub fill_slot-requires-clause-free : goal.fill_slot-requires-clause-free
fill_slot-requires-clause-free c =
    let k = c.args.theirs.key in
    ap (λ (o : OpenParts). is_taken o.books.ledger k) c.clear_slot.ensures ∙ without-free c.args.self.now k

pub returns-then-ne : goal.returns-then-ne
returns-then-ne c =
    let rise : IsAscending key_cmp row_key c.args.self.now.books.ledger.rows =
    subst (λ (o : OpenParts). IsAscending key_cmp row_key o.books.ledger.rows) c.self.view_is c.self.invariant.in_order.rows_rise in
    c.fill_slot.ensures ∙ ap (λ o. open_over o c.args.theirs) c.clear_slot.ensures
    ∙ over-without c.args.self.now c.args.theirs rise c.requires.own.under

pub returns-else-ne : goal.returns-else-ne
returns-else-ne c =
    let slots = c.self.inside.changed in
    let s = c.slot_at.result in
    let t = c.args.theirs in
    let rise : IsAscending key_cmp row_key c.args.self.now.books.ledger.rows =
    subst (λ (o : OpenParts). IsAscending key_cmp row_key o.books.ledger.rows) c.self.view_is c.self.invariant.in_order.rows_rise in
    let at = slot-at slots c.args.slot t.key (rw (← c.self.view_is) at c.requires.slot) in
    let same : s.key ≡ t.key = key-there slots t.key c.args.slot s at c.slot_at.ensures in
    let held : s.held ≡ t.held = (option_decides row_decides s.held t.held).0 (from_not _ c.if-ne.ensures) in
    let there : row_under (standing c.self.inside.opening slots) t.key ≡ t.held =
    ap (row_under (standing c.self.inside.opening slots)) (sym same)
    ∙ row-at_slot _ _ _ _ _ _ c.self.invariant c.args.slot s c.slot_at.ensures ∙ held in
    over-same c.args.self.now t rise c.requires.own.under
    (ap (λ (o : OpenParts). row_under o.books.ledger t.key) (sym c.self.view_is) ∙ there)
