use Rattle.rx_cli.proofs.DraftLemmas.{draws_as}
use Rattle.rx_cli.proofs.draft.Draft.option.Goals as goal

pub returns : goal.returns
returns c app drawn = draws_as app c.arg.result c.option-option.ensures.rule (c.arg.ensures app drawn)
