use Rattle.rx_cli.proofs.syntax.explain.Goals as goal

pub returns : goal.returns
returns c =
    c.takes_reader.ensures _ (c.flag-answered.ensures _ (c.flag.ensures _ (c.optional.ensures _ (c.takes_asked.ensures _
    (c.takes_given.ensures _ c.draft-explain.ensures)))))
