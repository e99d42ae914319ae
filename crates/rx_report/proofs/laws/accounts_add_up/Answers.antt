use Rattle.rx_report.proofs.AddedUp.{accounts_add_up}
use Rattle.rx_report.proofs.laws.accounts_add_up.Goals as goal

pub returns : goal.returns
returns c = accounts_add_up
