-- The rows of the family so far, followed by those that are still to come, are the rows.
use Rattle.std.proofs.Common.{◌≡◌, ◌++◌, filter, length}
use Rattle.rx_ledger.specs.Ledger.{rows_of}
use Rattle.rx_ledger.specs.Rows.{claimed_by}
use Rattle.rx_serial.proofs.in_order.rows_of.Given as goal

abbrev pub invariant-loop-row : goal.invariant-loop-row
invariant-loop-row l =
    l.rows.items ++ filter (claimed_by l.family) l.standing.rows ≡ rows_of l.books.books.ledger l.family

abbrev pub decreases-loop-row : goal.decreases-loop-row
decreases-loop-row l = length l.standing.rows
