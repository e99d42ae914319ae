-- Rows of the family that are too soon are found among all rows.
use Rattle.std.proofs.Common.{◌≡◌, Bool, true, false, refl, sym, ap, ◌∙◌}
use Rattle.std.specs.Prelude.{◌&&◌}
use Rattle.std.specs.List.{list_any}
use Rattle.rx_d0_values.specs.declared.bill.BillParts.{BillParts}
use Rattle.rx_ledger.specs.declared.row.Row.{Row}
use Rattle.rx_ledger.specs.Answers.{is_too_soon}
use Rattle.rx_ledger.specs.Rows.{claimed_by}
use Rattle.rx_ledger.proofs.Found.{any_of_passed}
use Rattle.rx_serial.proofs.in_order.is_any_row_too_soon.Goals as goal

pub returns-then-is_too_soon : goal.returns-then-is_too_soon
returns-then-is_too_soon c =
    let family = c.args.bill.now.family in
    let of_row : Row → Bool = λ r. claimed_by family r && is_too_soon c.args.figures.now c.args.date c.args.bill.now r in
    let own : claimed_by family c.in-Some.row.now ≡ true =
    ap (λ (b : BillParts). claimed_by b.family c.in-Some.row.now) (sym c.parts.ensures) ∙ sym c.is_same.ensures
    ∙ c.if-is_same.true in
    let soon = sym c.is_too_soon.ensures ∙ c.if-is_too_soon.true in
    let first : of_row c.in-Some.row.now ≡ true = rw (own, soon) refl in
    let some : list_any of_row c.loop-row.standing.rows ≡ true = rw (c.in-Some.ensures.row, first) refl in
    sym (sym (any_of_passed (claimed_by family) (is_too_soon c.args.figures.now c.args.date c.args.bill.now)
    c.args.books.now.books.ledger.rows)
    ∙ sym c.loop-row.invariant ∙ some)

pub returns : goal.returns
returns c =
    let family = c.args.bill.now.family in
    let of_row : Row → Bool = λ r. claimed_by family r && is_too_soon c.args.figures.now c.args.date c.args.bill.now r in
    let none : list_any of_row c.loop-row.standing.rows ≡ false =
    ap (list_any of_row) c.in_default.ensures.none in
    sym (sym (any_of_passed (claimed_by family) (is_too_soon c.args.figures.now c.args.date c.args.bill.now)
    c.args.books.now.books.ledger.rows)
    ∙ sym c.loop-row.invariant ∙ none)
