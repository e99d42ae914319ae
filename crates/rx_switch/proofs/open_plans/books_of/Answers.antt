use Rattle.std.proofs.Common.{sym}
use Rattle.rx_switch.proofs.PlanRefusals.{plan_books_refused}
use Rattle.rx_switch.proofs.open_plans.books_of.Goals as goal

pub returns-in-Err-clause-refused : goal.returns-in-Err-clause-refused
returns-in-Err-clause-refused g c switch plans texts plan next is planned alone =
    rw (c.of_plan.ensures, c.from.ensures) (plan_books_refused switch c.args.number plans texts next plan planned alone
    c.in-Err.fault (rw (sym is) at c.in-Err.ensures.refuses))
