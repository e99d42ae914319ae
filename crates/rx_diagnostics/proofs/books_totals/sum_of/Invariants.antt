-- The sum over the rows so far, with a bound that keeps it from overflowing.
use Rattle.std.proofs.Common.{◌≡◌, ◌≤◌, ◌*◌, take}
use Rattle.std.specs.Prelude.{sum_by}
use Rattle.rx_ledger.specs.Sums.{counted, persons_deductible_paid}
use Rattle.rx_diagnostics.specs.BooksTotals.{of_family}
use Rattle.rx_diagnostics.proofs.books_totals.sum_of.Given as goal

abbrev pub invariant-loop-row : goal.invariant-loop-row
invariant-loop-row l =
    record {
      so_far : l.sum ≡ sum_by (of_family l.family (counted l.period (persons_deductible_paid l.person))) (take l.row-index l.rows);
      small : l.sum ≤ 100_000_000 * l.row-index;
    }
