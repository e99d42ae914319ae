use Rattle.std.proofs.Common.{◌≡◌, length}
use Rattle.rx_books_text.specs.Printed.{member_lines}
use Rattle.rx_books_scan.specs.Lists.{BeginWith}
use Rattle.rx_books_scan.proofs.run.members_at.Given as goal

-- the members so far, and what is left
abbrev pub invariant-loop-line : goal.invariant-loop-line
invariant-loop-line l = record {
  one_each : length l.deductibles.items ≡ length l.members.items;
  front : BeginWith l.fn.version l.fn.bytes (member_lines l.members.items l.deductibles.items) l.rest;
}

abbrev pub decreases-loop-line : goal.decreases-loop-line
decreases-loop-line l = length l.rest
