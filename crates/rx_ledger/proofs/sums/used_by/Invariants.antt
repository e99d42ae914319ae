-- The sums over the family's rows so far, each with a bound that keeps them from overflowing.
use Rattle.std.proofs.Common.{◌≡◌, ◌≤◌, ◌*◌, ◌^◌, filter, take}
use Rattle.rx_ledger.specs.Answers.{used_by}
use Rattle.rx_ledger.specs.Rows.{claimed_by}
use Rattle.rx_ledger.proofs.sums.used_by.Given as goal

abbrev pub invariant-loop-row : goal.invariant-loop-row
invariant-loop-row l =
    record {
      so_far : l.used ≡ used_by l.figures l.key.person (filter (claimed_by l.key.family) (take l.row-index l.rows));
      deductible : l.used.deductible ≤ l.row-index * 2 ^ 64;
      out_of_pocket : l.used.out_of_pocket ≤ l.row-index * 2 ^ 64;
      family_deductible : l.used.family_deductible ≤ l.row-index * 2 ^ 64;
    }
