-- A step goes on, and what is left between the ends shrinks.
use Rattle.std.proofs.Common.{◌-◌, ◌≤◌}
use Rattle.rx_books_store.proofs.search.guess.Given as goal

abbrev pub invariant-steps : goal.invariant-steps
invariant-steps g l = 1 ≤ l.step

abbrev pub decreases-steps : goal.decreases-steps
decreases-steps g l = l.len - l.low

abbrev pub invariant-halves : goal.invariant-halves
invariant-halves g l = l.high ≤ l.len

abbrev pub decreases-halves : goal.decreases-halves
decreases-halves g l = l.high - l.low
