use Rattle.rx_cli.proofs.compare_options.compare_line.Goals as goal

pub returns : goal.returns
returns c =
    c.flag-2.ensures _ (c.flag.ensures _ (c.optional-2.ensures _ (c.optional.ensures _
    (c.takes_inputs.ensures _ c.draft-compare.ensures))))
