use Rattle.rx_cli.proofs.syntax.takes_forms.Goals as goal

pub returns : goal.returns
returns c app drawn = c.optional.ensures _ (c.flag-4.ensures _ (c.flag-3.ensures _ (c.flag-2.ensures _ (c.flag.ensures app drawn))))
