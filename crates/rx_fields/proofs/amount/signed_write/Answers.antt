-- The spelling is read back as the amount.
use Rattle.std.proofs.Common.{ap, ◌∙◌, FitsSigned, w64}
use Rattle.std.proofs.lemmas.Int.{to_z-of_z}
use Rattle.rx_fields.specs.Amount.{signed_of}
use Rattle.rx_fields.proofs.AmountLaws.{signed_again}
use Rattle.rx_fields.proofs.amount.signed_write.Goals as goal

pub returns-clause-again : goal.returns-clause-again
returns-clause-again c =
    let fits : FitsSigned w64 c.args.amount = c.ranges.amount in
    let text = simp to_z-of_z at c.spelled.ensures in
    ap signed_of text ∙ signed_again c.args.amount c.requires
