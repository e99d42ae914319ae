use Rattle.rx_ledger.proofs.Decided.{figures_decides}
use Rattle.rx_desk.proofs.same_job.same_figures.Goals as goal

pub returns : goal.returns
returns c = rw c.eq.ensures (figures_decides c.args.a.now c.args.b.now)
