use Rattle.rx_cli.proofs.DraftLemmas.{draws_as}
use Rattle.rx_cli.proofs.draft.Draft.verbose.Goals as goal

pub returns : goal.returns
returns c app drawn = draws_as app c.arg.result c.verbose-verbose.ensures.rule (c.arg.ensures app drawn)
