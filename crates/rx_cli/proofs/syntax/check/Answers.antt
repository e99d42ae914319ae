use Rattle.rx_cli.proofs.syntax.check.Goals as goal

pub returns : goal.returns
returns c = c.optional-4.ensures _ (c.optional-3.ensures _ (c.optional-2.ensures _ (c.optional.ensures _ c.draft.ensures)))
