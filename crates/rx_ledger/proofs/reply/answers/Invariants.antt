-- The answers so far, followed by those from here on, are the answers; the ledger from here on is the ledger after; and
-- what the transactions ask for is held.
use Rattle.std.proofs.Common.{◌≡◌, ◌+◌, ◌++◌, length, drop}
use Rattle.std.specs.List.{All}
use Rattle.rx_ledger.specs.Basis.{Holds}
use Rattle.rx_ledger.specs.Fold.{answers_from, ledger_from}
use Rattle.rx_ledger.specs.Named.{key_in}
use Rattle.rx_ledger.specs.TermList.{plan_of}
use Rattle.rx_ledger.proofs.reply.answers.Given as goal

abbrev pub invariant-loop-at : goal.invariant-loop-at
invariant-loop-at g l =
    let lot = l.terms.lot in
    let plan = plan_of l.terms in
    let before = g.S.Basis.ledger l.initial.basis in
    let now = g.S.Basis.ledger l.basis in
    record {
      count : length l.answers.items ≡ l.at;
      answers : l.answers.items ++ answers_from lot plan l.place l.heard (l.at + 1) (drop l.at l.list) now
          ≡ answers_from lot plan l.place l.heard 1 l.list before;
      ledger : ledger_from lot plan l.place l.heard (l.at + 1) (drop l.at l.list) now
          ≡ ledger_from lot plan l.place l.heard 1 l.list before;
      scope : g.S.Basis.scope l.basis ≡ g.S.Basis.scope l.initial.basis;
      held : All (Holds (g.S.Basis.scope l.initial.basis) (key_in l.heard) now) l.list;
    }
