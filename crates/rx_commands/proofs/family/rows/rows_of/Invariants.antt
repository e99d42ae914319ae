-- The claims found so far, with those still to come, are the family's.
use Rattle.std.proofs.Common.{◌≡◌, ◌++◌, length}
use Rattle.std.specs.List.{filter}
use Rattle.rx_ledger.specs.Ledger.{rows_of}
use Rattle.rx_ledger.specs.Rows.{claimed_by}
use Rattle.rx_commands.proofs.family.rows.rows_of.Given as goal

abbrev pub invariant-loop-row : goal.invariant-loop-row
invariant-loop-row l =
    let L = l.books.books.ledger in
    record {
      found : l.rows.items ++ filter (claimed_by l.id) l.standing.rows ≡ rows_of L l.id;
      members : l.standing.members ≡ L.members;
    }

abbrev pub decreases-loop-row : goal.decreases-loop-row
decreases-loop-row l = length l.standing.rows
