use Rattle.rx_cli.proofs.DraftLemmas.{draws_line}
use Rattle.rx_cli.proofs.syntax.draft.Goals as goal

pub returns : goal.returns
returns c = draws_line c.of.result c.named.ensures.shape c.of.ensures
