use Rattle.rx_cli.proofs.DraftLemmas.{draws_as}
use Rattle.rx_cli.proofs.draft.Draft.place.Goals as goal

pub returns : goal.returns
returns c app drawn = draws_as app c.arg.result c.place-place.ensures.rule (c.arg.ensures app drawn)
