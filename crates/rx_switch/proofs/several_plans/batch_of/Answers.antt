use Rattle.std.proofs.Common.{sym}
use Rattle.rx_switch.proofs.PlanRefusals.{switch_batch_refused}
use Rattle.rx_switch.proofs.several_plans.batch_of.Goals as goal

pub returns-in-Err-clause-refused : goal.returns-in-Err-clause-refused
returns-in-Err-clause-refused c switch s plans stamped accepted is =
    rw c.from.ensures (switch_batch_refused switch s plans stamped accepted c.in-Err.fault (rw (sym is) at c.in-Err.ensures.refuses))
