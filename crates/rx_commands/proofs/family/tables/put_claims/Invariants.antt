-- The items so far, followed by those that are left, are the items.
use Rattle.std.proofs.Common.{◌≡◌, ◌++◌, drop, false}
use Rattle.std.specs.List.{enumerate_from}
use Rattle.rx_commands.specs.FamilyTables.{claims_json}
use Rattle.rx_commands.proofs.family.tables.put_claims.Given as goal

abbrev pub invariant-loop-before : goal.invariant-loop-before
invariant-loop-before l =
    l.page.lacks ≡ false → (l.fn.page.lacks ≡ false)
    × (l.page.bytes.items ++ claims_json (enumerate_from l.before (drop l.before l.claims))
    ≡ l.fn.page.bytes.items ++ claims_json (enumerate_from 0 l.claims))
