use Rattle.std.proofs.Common.{sym}
use Rattle.rx_switch.proofs.PlanRefusals.{plan_sheet_refused}
use Rattle.rx_switch.proofs.open_plans.sheet_of.Goals as goal

pub returns-in-Err-clause-refused : goal.returns-in-Err-clause-refused
returns-in-Err-clause-refused c switch plans texts next is =
    rw (c.of_plan.ensures, c.from.ensures) (plan_sheet_refused switch c.args.number plans texts next c.in-Err.fault
    (rw (sym is) at c.in-Err.ensures))
