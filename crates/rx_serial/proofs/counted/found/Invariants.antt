-- What is found so far, with the fills of the rows still to come, is what all rows are.
use Rattle.std.proofs.Common.{◌≡◌, ◌+◌, length, true}
use Rattle.rx_serial.specs.declared.fill.FillKey.{FillKey}
use Rattle.rx_serial.specs.Fills.{count_among, fills_in, is_counted}
use Rattle.rx_serial.proofs.counted.found.Given as goal

abbrev pub invariant-loop-row : goal.invariant-loop-row
invariant-loop-row l =
    let L = l.books.books.ledger in
    record {
      finding : (k : FillKey) → is_counted l.marks l.first_day k ≡ true
          → count_among l.found.items k + fills_in L.members l.standing.rows k ≡ fills_in L.members L.rows k;
      members : l.standing.members ≡ L.members;
    }

abbrev pub decreases-loop-row : goal.decreases-loop-row
decreases-loop-row l = length l.standing.rows
