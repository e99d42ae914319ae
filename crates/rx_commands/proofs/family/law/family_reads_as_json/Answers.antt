use Rattle.std.proofs.Common.{arith}
use Rattle.rx_print.proofs.JsonPieces.{read_as}
use Rattle.rx_commands.proofs.FamilyRead.{family_is}
use Rattle.rx_commands.proofs.family.law.family_reads_as_json.Goals as goal

pub returns : goal.returns
returns c f = read_as 4 _ _ (omega arith) (family_is f)
