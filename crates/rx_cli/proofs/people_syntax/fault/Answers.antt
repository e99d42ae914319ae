use Rattle.rx_cli.proofs.people_syntax.fault.Goals as goal

pub returns : goal.returns
returns c = c.place-3.ensures _ (c.place-2.ensures _ (c.place.ensures _ c.draft.ensures))
