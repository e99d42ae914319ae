use Rattle.rx_books_scan.specs.Lists.{BeginWith, total_lines}
use Rattle.std.proofs.Common.{length}
use Rattle.rx_books_scan.proofs.run.totals_at.Given as goal

-- the totals so far, and what is left
abbrev pub invariant-loop-line : goal.invariant-loop-line
invariant-loop-line l = BeginWith l.fn.version l.fn.bytes (total_lines l.totals.items) l.rest

abbrev pub decreases-loop-line : goal.decreases-loop-line
decreases-loop-line l = length l.rest
