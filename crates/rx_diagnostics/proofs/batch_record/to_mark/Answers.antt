use Rattle.std.proofs.Common.{eqb, ◌||◌, ◌∙◌}
use Rattle.rx_batch.specs.declared.layout.TheConstants.{ETX, STX}
use Rattle.rx_diagnostics.proofs.Searches.{first_place}
use Rattle.rx_diagnostics.proofs.batch_record.to_mark.Goals as goal

pub returns : goal.returns
returns c =
    c.unwrap_or.ensures
    ∙ first_place (λ b. eqb b STX || eqb b ETX) c.args.bytes.now c.memchr2.result c.memchr2.ensures
