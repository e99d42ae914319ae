use Rattle.std.proofs.Common.{arith}
use Rattle.rx_print.proofs.JsonPieces.{read_as}
use Rattle.rx_report.proofs.LinesRead.{lines_are}
use Rattle.rx_report.proofs.laws.lines_read_as_json.Goals as goal

pub returns : goal.returns
returns c lines = read_as 2 _ _ (omega arith) (lines_are lines)
