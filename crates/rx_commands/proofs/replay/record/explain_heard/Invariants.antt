-- The transactions so far are explained, on the ledgers before them; those to come are adjudicated on the ledger as it is.
use Rattle.std.proofs.Common.{◌≡◌, ◌≤◌, ◌+◌, ◌++◌, ℕ, length, drop, map, take}
use Rattle.rx_explain.specs.Spots.{item}
use Rattle.rx_serial.specs.Underway.{scope_of}
use Rattle.rx_ledger.specs.Fold.{answers_from, ledger_from}
use Rattle.rx_commands.specs.Records.{IsOf}
use Rattle.rx_commands.proofs.replay.record.explain_heard.Given as goal

abbrev pub invariant-loop-before : goal.invariant-loop-before
invariant-loop-before l =
    let now = l.order.books.ledger in
    let first = l.initial.order.books.ledger in
    record {
      count : length l.facts.items ≡ l.before;
      answers : map (λ x. x.answer) l.facts.items
          ++ answers_from l.lot l.sheet l.place l.heard (l.before + 1) (drop l.before l.list) now
          ≡ answers_from l.lot l.sheet l.place l.heard 1 l.list first;
      ledger : ledger_from l.lot l.sheet l.place l.heard (l.before + 1) (drop l.before l.list) now
          ≡ ledger_from l.lot l.sheet l.place l.heard 1 l.list first;
      so_far : now ≡ ledger_from l.lot l.sheet l.place l.heard 1 (take l.before l.list) first;
      scope : scope_of l.order ≡ scope_of l.initial.order;
      explained : (nth : ℕ) → nth ≤ l.before
          → IsOf l.lot l.sheet l.place l.heard first nth (item l.list nth) (item l.facts.items nth);
    }
