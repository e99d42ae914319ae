use Rattle.std.proofs.Common.{arith}
use Rattle.rx_explain_text.proofs.ExplanationRead.{explanation_is, rejection_is}
use Rattle.rx_explain_text.proofs.laws.explanations_read_as_json.Goals as goal
use Rattle.rx_print.proofs.JsonPieces.{read_as}

pub returns-clause-explained : goal.returns-clause-explained
returns-clause-explained c lot figures e request tier o = read_as 4 _ _ (omega arith) (explanation_is lot figures e request tier o)

pub returns-clause-rejected : goal.returns-clause-rejected
returns-clause-rejected c place r request o = read_as 4 _ _ (omega arith) (rejection_is place r request o)
