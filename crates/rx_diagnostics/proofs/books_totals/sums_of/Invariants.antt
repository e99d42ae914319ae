-- The sums over the rows so far, with a bound that keeps them from overflowing.
use Rattle.std.proofs.Common.{◌≡◌, ◌≤◌, ◌*◌, take}
use Rattle.std.specs.Prelude.{sum_by}
use Rattle.rx_ledger.specs.Sums.{counted, deductible_paid, paid_by_patient}
use Rattle.rx_diagnostics.specs.BooksTotals.{of_family}
use Rattle.rx_diagnostics.proofs.books_totals.sums_of.Given as goal

abbrev pub invariant-loop-row : goal.invariant-loop-row
invariant-loop-row l =
    record {
      out_of_pocket : l.sums.out_of_pocket ≡ sum_by (of_family l.family (counted l.period paid_by_patient)) (take l.row-index l.rows);
      deductible : l.sums.deductible ≡ sum_by (of_family l.family (counted l.period deductible_paid)) (take l.row-index l.rows);
      paid_small : l.sums.out_of_pocket ≤ 100_000_000 * l.row-index;
      deductible_small : l.sums.deductible ≤ 100_000_000 * l.row-index;
    }
