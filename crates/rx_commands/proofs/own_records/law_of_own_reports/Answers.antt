use Rattle.rx_commands.proofs.OwnLaw.{own_settled}
use Rattle.rx_commands.proofs.own_records.law_of_own_reports.Goals as goal

pub returns : goal.returns
returns c = λ g t n texts stamp whole is at stamped reported. own_settled g t n texts stamp whole is at stamped reported
