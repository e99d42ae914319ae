use Rattle.rx_cli.proofs.upkeep_syntax.members.Goals as goal

pub returns : goal.returns
returns c =
    c.flag.ensures _ (c.optional-3.ensures _ (c.file-2.ensures _ (c.file.ensures _ (c.optional-2.ensures _
    (c.optional.ensures _ c.draft.ensures)))))
