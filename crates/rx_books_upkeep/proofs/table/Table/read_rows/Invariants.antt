use Rattle.std.proofs.Common.{◌≡◌, ◌+◌, ◌≤◌, length}
use Rattle.rx_books_text.specs.TextReading.{lines}
use Rattle.rx_books_upkeep.specs.Table.{rows_read}
use Rattle.rx_books_upkeep.proofs.table.Table.read_rows.Given as goal

-- what is left is read as all would be
abbrev pub invariant-loop-end : goal.invariant-loop-end
invariant-loop-end l = record {
  same : rows_read 2 l.fn.self (lines l.fn.text) ≡ rows_read l.number l.self (lines l.rest);
  count : l.number + length l.rest ≤ 2 + length l.fn.text;
}

abbrev pub decreases-loop-end : goal.decreases-loop-end
decreases-loop-end l = length l.rest
