use Rattle.rx_commands.proofs.ProductNames.{product_is_text}
use Rattle.rx_commands.proofs.tiers.entry_of.Goals as goal

pub returns-in-Err : goal.returns-in-Err
returns-in-Err c = absurd (c.in-Err.ensures.cases.0 (product_is_text _ c.args.product c.digits-digits.ensures.again))
