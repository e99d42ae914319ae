use Rattle.rx_cli.proofs.people_syntax.takes_wishes.Goals as goal

pub returns : goal.returns
returns c app drawn = c.flag-3.ensures _ (c.flag-2.ensures _ (c.flag.ensures _ (c.workers.ensures _ (c.optional.ensures app drawn))))
