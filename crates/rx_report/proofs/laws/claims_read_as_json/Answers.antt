use Rattle.std.proofs.Common.{arith}
use Rattle.rx_print.proofs.JsonPieces.{read_as}
use Rattle.rx_report.proofs.LinesRead.{claim_is}
use Rattle.rx_report.proofs.laws.claims_read_as_json.Goals as goal

pub returns : goal.returns
returns c lot stamp line = read_as 2 _ _ (omega arith) (claim_is lot stamp line)
