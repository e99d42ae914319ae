-- The line feeds so far, and those that are left.
use Rattle.std.proofs.Common.{◌≡◌, ◌+◌, ◌≤◌, length}
use Rattle.rx_books_text.specs.Printed.{line_feeds}
use Rattle.rx_books_upkeep.proofs.table.line_feeds.Given as goal

abbrev pub invariant-loop-end : goal.invariant-loop-end
invariant-loop-end l = record {
  same : l.found + line_feeds l.rest ≡ line_feeds l.fn.text;
  count : l.found + length l.rest ≤ length l.fn.text;
}

abbrev pub decreases-loop-end : goal.decreases-loop-end
decreases-loop-end l = length l.rest
