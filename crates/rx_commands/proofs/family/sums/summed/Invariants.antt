-- The claims so far, and the sums over them, each with a bound that keeps it from overflowing.
use Rattle.std.proofs.Common.{◌≡◌, ◌≤◌, ◌*◌, ◌^◌, ℕ, List, take}
use Rattle.std.specs.Prelude.{unwrap_or}
use Rattle.std.specs.BTreeMap.{get}
use Rattle.rx_fields.specs.Order.{id_cmp}
use Rattle.rx_ledger.specs.Sums.{deductible_in, family_deductible_in, out_of_pocket_in}
use Rattle.rx_commands.specs.FamilySums.{claims_of}
use Rattle.rx_commands.proofs.family.sums.summed.Given as goal

abbrev pub invariant-loop-row : goal.invariant-loop-row
invariant-loop-row l =
    record {
      claims : l.claims.items ≡ claims_of l.limits l.period (take l.row-index l.rows);
      persons : (p : List ℕ) → unwrap_or (get id_cmp l.deductibles.persons p) 0 ≡ deductible_in l.period (take l.row-index l.rows) p;
      family : l.family_deductible ≡ family_deductible_in l.period (take l.row-index l.rows);
      pays : l.out_of_pocket ≡ out_of_pocket_in l.period (take l.row-index l.rows);
      persons_small : (p : List ℕ) → unwrap_or (get id_cmp l.deductibles.persons p) 0 ≤ l.row-index * 2 ^ 64;
      family_small : l.family_deductible ≤ l.row-index * 2 ^ 64;
      pays_small : l.out_of_pocket ≤ l.row-index * 2 ^ 64;
    }
