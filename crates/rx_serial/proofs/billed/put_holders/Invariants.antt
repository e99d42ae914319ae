use Rattle.std.proofs.Common.{◌≡◌}
use Rattle.std.specs.List.{All}
use Rattle.rx_serial.specs.Underway.{IsHolder}
use Rattle.rx_serial.proofs.billed.put_holders.Given as goal

abbrev pub invariant-loop-transaction : goal.invariant-loop-transaction
invariant-loop-transaction l =
    record {
      holders : All (IsHolder l.books.books.ledger.members) l.found.holders.items;
      own : All (λ e. e.fill.count ≡ 0) l.found.own.items;
      before : IsHolder l.books.books.ledger.members l.before;
    }
