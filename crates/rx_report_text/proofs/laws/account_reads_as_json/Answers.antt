use Rattle.std.proofs.Common.{arith}
use Rattle.rx_print.proofs.JsonPieces.{read_as}
use Rattle.rx_report_text.proofs.AccountRead.{account_is}
use Rattle.rx_report_text.proofs.laws.account_reads_as_json.Goals as goal

pub returns : goal.returns
returns c lot stamp portion account = read_as 5 _ _ (omega arith) (account_is lot stamp portion account)
