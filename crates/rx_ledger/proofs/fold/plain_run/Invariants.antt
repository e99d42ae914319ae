-- The replies so far, followed by those from here on, are the replies; and the ledger from here on is the ledger after.
use Rattle.std.proofs.Common.{◌≡◌, ◌+◌, ◌++◌, drop}
use Rattle.rx_ledger.specs.Fold.{fold_ledger, fold_replies}
use Rattle.rx_ledger.proofs.fold.plain_run.Given as goal

abbrev pub invariant-loop-at : goal.invariant-loop-at
invariant-loop-at l =
    record {
      replies : l.replies.items ++ fold_replies l.lot l.sheet (l.at + 1) (drop l.at l.transmissions) l.ledger
          ≡ fold_replies l.lot l.sheet 1 l.transmissions l.before;
      ledger : fold_ledger l.lot l.sheet (l.at + 1) (drop l.at l.transmissions) l.ledger
          ≡ fold_ledger l.lot l.sheet 1 l.transmissions l.before;
    }
