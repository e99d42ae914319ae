use Rattle.rx_commands.proofs.excerpts.named_ledger.Goals as goal

pub returns-clause-value : goal.returns-clause-value
returns-clause-value c =
    rw (c.deref.ensures.value, c.in_ok-families.ensures, c.in_ok-whole.ensures) at c.ledger_of.ensures.value

pub returns-clause-within : goal.returns-clause-within
returns-clause-within c = rw c.in_ok-whole.ensures at c.ledger_of.ensures.within
