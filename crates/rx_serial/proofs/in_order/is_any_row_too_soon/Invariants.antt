-- The rows passed make it not too soon.
use Rattle.std.proofs.Common.{◌≡◌, Bool, length}
use Rattle.std.specs.Prelude.{◌&&◌}
use Rattle.std.specs.List.{list_any}
use Rattle.rx_ledger.specs.declared.row.Row.{Row}
use Rattle.rx_ledger.specs.Answers.{is_too_soon}
use Rattle.rx_ledger.specs.Rows.{claimed_by}
use Rattle.rx_serial.proofs.in_order.is_any_row_too_soon.Given as goal

abbrev pub invariant-loop-row : goal.invariant-loop-row
invariant-loop-row l =
    let of_row : Row → Bool = λ r. claimed_by l.bill.family r && is_too_soon l.figures l.date l.bill r in
    list_any of_row l.standing.rows ≡ list_any of_row l.books.books.ledger.rows

abbrev pub decreases-loop-row : goal.decreases-loop-row
decreases-loop-row l = length l.standing.rows
