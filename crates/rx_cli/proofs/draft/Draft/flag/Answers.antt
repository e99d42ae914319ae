use Rattle.rx_cli.proofs.DraftLemmas.{draws_as}
use Rattle.rx_cli.proofs.draft.Draft.flag.Goals as goal

pub returns : goal.returns
returns c app drawn = draws_as app c.arg.result c.flag-flag.ensures.rule (c.arg.ensures app drawn)
