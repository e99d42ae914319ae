use Rattle.std.proofs.Common.{arith}
use Rattle.rx_print.proofs.JsonPieces.{read_as, text_is}
use Rattle.rx_print.proofs.law.string_reads_as_json.Goals as goal

pub returns : goal.returns
returns c bytes = read_as 0 _ _ (omega arith) (text_is 0 bytes)
