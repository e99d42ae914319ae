use Rattle.std.proofs.Common.{◌≡◌, [], length, ap, sym, ◌∙◌, arith}
use Rattle.rx_ledger.specs.Ledger.{Ledger}
use Rattle.rx_books_store.specs.OpenBooks.{OpenParts}
use Rattle.rx_books_store.proofs.KeptLines.{none_stand}
use Rattle.rx_books_store.proofs.open_books.OpenBooks.claims.Goals as goal

pub returns-then-has_no_slot-clause-value : goal.returns-then-has_no_slot-clause-value
returns-then-has_no_slot-clause-value c =
    let inside = c.self.inside in
    let none = ap (λ (o : OpenParts). o.slots) c.self.view_is ∙ c.has_no_slot.ensures c.if-has_no_slot.true in
    c.len.ensures.value ∙ ap length c.rows.ensures.value ∙ ap length (sym (none_stand inside.opening.rows inside.changed none))
    ∙ ap (λ (o : OpenParts). length o.books.ledger.rows) c.self.view_is

pub returns-then-has_no_slot-clause-within : goal.returns-then-has_no_slot-clause-within
returns-then-has_no_slot-clause-within c = rw (← c.self.view_is) c.self.invariant.in_order

pub claims-init : goal.claims-init
claims-init c = record {
  all = omega arith;
  few = omega (arith, c.standing-standing.ensures.few, ap (λ (L : Ledger). length L.rows) c.standing-standing.ensures.value);
}

pub overflow_add-count : goal.overflow_add-count
overflow_add-count c = omega (arith, c.claims.invariant.few, ap length c.in-Some.ensures.row)

pub claims-preserved : goal.claims-preserved
claims-preserved c =
    let step = ap length c.in-Some.ensures.row in
    record { all = omega (arith, c.claims.invariant.all, step); few = omega (arith, c.claims.invariant.few, step) }

pub returns-clause-value : goal.returns-clause-value
returns-clause-value c =
    let none : c.claims.standing.rows ≡ [] = c.in_default.ensures.none in
    omega (
      arith,
      c.claims.invariant.all,
      ap length none,
      ap (λ (L : Ledger). length L.rows) c.standing-standing.ensures.value,
    )
