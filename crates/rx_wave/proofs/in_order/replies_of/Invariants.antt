-- The replies so far, followed by those from here on, are the replies; the ledger from here on is the ledger after; and
-- every record is one that is awaited.
use Rattle.std.proofs.Common.{◌≡◌, ◌+◌, ◌++◌, drop}
use Rattle.std.specs.List.{All}
use Rattle.rx_ledger.specs.Fold.{fold_ledger, fold_replies}
use Rattle.rx_serial.specs.Underway.{IsAwaited}
use Rattle.rx_wave.proofs.in_order.replies_of.Given as goal

abbrev pub invariant-loop-at : goal.invariant-loop-at
invariant-loop-at g l =
    let now = l.order.books.ledger in
    let before = l.initial.order.books.ledger in
    record {
      replies : l.replies.items ++ fold_replies l.lot l.sheet (l.at + 1) (drop l.at l.transmissions) now
          ≡ fold_replies l.lot l.sheet 1 l.transmissions before;
      ledger : fold_ledger l.lot l.sheet (l.at + 1) (drop l.at l.transmissions) now
          ≡ fold_ledger l.lot l.sheet 1 l.transmissions before;
      period : l.order.books.period ≡ l.sheet.figures.period;
      awaited : All (IsAwaited l.order) l.transmissions;
    }
