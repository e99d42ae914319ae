use Rattle.std.proofs.Common.{◌≡◌, length}
use Rattle.rx_books_scan.specs.Lists.{BeginWith, claim_lengths, claim_lines}
use Rattle.rx_books_scan.proofs.run.claims_at.Given as goal

-- the claims so far, with their lengths, and what is left
abbrev pub invariant-loop-row : goal.invariant-loop-row
invariant-loop-row l = record {
  front : BeginWith l.fn.version l.fn.bytes (claim_lines l.rows.items) l.rest;
  each : l.lengths.items ≡ claim_lengths l.fn.version l.rows.items;
}

abbrev pub decreases-loop-row : goal.decreases-loop-row
decreases-loop-row l = length l.rest
