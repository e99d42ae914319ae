use Rattle.rx_ledger.proofs.Decided.{figures_decides}
use Rattle.rx_commands.proofs.excerpts.sheet_file.same_figures.Goals as goal

pub returns : goal.returns
returns c = rw c.eq.ensures (figures_decides c.args.a.now c.args.b.now)
