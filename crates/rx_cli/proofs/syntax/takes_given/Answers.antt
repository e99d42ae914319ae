use Rattle.rx_cli.proofs.syntax.takes_given.Goals as goal

pub returns : goal.returns
returns c app drawn = c.file.ensures _ (c.optional-3.ensures _ (c.optional-2.ensures _ (c.optional.ensures app drawn)))
