use Rattle.rx_cli.proofs.dispute_syntax.excerpt.Goals as goal

pub returns : goal.returns
returns c = c.optional.ensures _ (c.option-2.ensures _ (c.option.ensures _ (c.takes_inputs.ensures _ c.draft-excerpt.ensures)))
