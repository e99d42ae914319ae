-- The lines that are left have the same first line that isn't of a family before.
use Rattle.std.proofs.Common.{◌≡◌, length}
use Rattle.rx_diagnostics.specs.BooksTotals.{from_family}
use Rattle.rx_diagnostics.proofs.books_totals.from_family.Given as goal

abbrev pub invariant-loop-left : goal.invariant-loop-left
invariant-loop-left l = from_family l.family l.left ≡ from_family l.family l.totals

abbrev pub decreases-loop-left : goal.decreases-loop-left
decreases-loop-left l = length l.left
