use Rattle.rx_run_log.proofs.LastLine.{totals_are}
use Rattle.rx_run_log.proofs.law.totals_are_the_settlements.Goals as goal

pub returns : goal.returns
returns c lot stamp replies small = totals_are lot stamp replies small
