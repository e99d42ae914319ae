use Rattle.rx_ledger.proofs.Ledgers.{IsLedger-without_row}
use Rattle.rx_ledger.proofs.ledger.Ledger.remove_row.Goals as goal

pub invariant_of-self : goal.invariant_of-self
invariant_of-self c =
    rw c.remove.ensures.items
    (IsLedger-without_row (record { members = c.self.inside.members; rows = c.self.inside.rows }) c.args.key.now
    c.self.invariant)

pub returns-clause-value : goal.returns-clause-value
returns-clause-value c = rw (← c.self.view_is) c.remove.ensures.value
