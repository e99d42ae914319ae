use Rattle.std.proofs.Common.{eqb, ◌∙◌}
use Rattle.rx_diagnostics.proofs.Searches.{first_place}
use Rattle.rx_diagnostics.proofs.batch_record.to_byte.Goals as goal

pub returns : goal.returns
returns c =
    c.unwrap_or.ensures
    ∙ first_place (λ b. eqb b c.args.byte) c.args.bytes.now c.memchr.result c.memchr.ensures
