use Rattle.rx_cli.proofs.upkeep_syntax.takes_aged.Goals as goal

pub returns : goal.returns
returns c app drawn =
    c.optional-3.ensures _ (c.optional-2.ensures _ (c.optional.ensures _ (c.option.ensures _ (c.file.ensures app drawn))))
