use Rattle.rx_ledger.specs.TermList.{drugs_in}
use Rattle.rx_ledger.proofs.table.decide.Goals as goal

pub returns-in-Reverse : goal.returns-in-Reverse
returns-in-Reverse g c = rw c.in-Reverse.is (c.decide_reversal.ensures (drugs_in c.args.terms.now.places))
