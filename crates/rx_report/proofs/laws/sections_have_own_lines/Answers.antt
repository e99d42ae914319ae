use Rattle.rx_report.proofs.OwnLines.{sections_have_own_lines}
use Rattle.rx_report.proofs.laws.sections_have_own_lines.Goals as goal

pub returns : goal.returns
returns c = sections_have_own_lines
