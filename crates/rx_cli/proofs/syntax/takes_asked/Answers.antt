use Rattle.rx_cli.proofs.syntax.takes_asked.Goals as goal

pub returns : goal.returns
returns c app drawn = c.optional-4.ensures _ (c.optional-3.ensures _ (c.optional-2.ensures _ (c.optional.ensures app drawn)))
