use Rattle.rx_cli.proofs.upkeep_syntax.family.Goals as goal

pub returns : goal.returns
returns c =
    c.flag-3.ensures _ (c.flag-2.ensures _ (c.flag.ensures _ (c.optional-2.ensures _ (c.optional.ensures _ (c.option.ensures _
    (c.file.ensures _ c.draft.ensures))))))
