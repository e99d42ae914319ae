use Rattle.std.proofs.Common.{◌≡◌}
use Rattle.std.specs.List.{All}
use Rattle.rx_serial.specs.Underway.{IsHolder}
use Rattle.rx_serial.proofs.billed.billed_by.Given as goal

abbrev pub invariant-loop-transmission : goal.invariant-loop-transmission
invariant-loop-transmission l =
    record {
      holders : All (IsHolder l.books.books.ledger.members) l.found.holders.items;
      own : All (λ e. e.fill.count ≡ 0) l.found.own.items;
    }
