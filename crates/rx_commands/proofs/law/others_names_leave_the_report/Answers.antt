use Rattle.rx_commands.proofs.OneReport.{one-report}
use Rattle.rx_commands.proofs.law.others_names_leave_the_report.Goals as goal

pub returns : goal.returns
returns c = one-report
