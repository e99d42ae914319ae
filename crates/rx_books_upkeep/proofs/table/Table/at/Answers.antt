use Rattle.std.proofs.Common.{ap, ◌∙◌}
use Rattle.rx_books_upkeep.specs.Table.{listed_at}
use Rattle.rx_books_upkeep.proofs.table.Table.at.Goals as goal

pub returns : goal.returns
returns c = c.copied.ensures ∙ c.get.ensures.value ∙ ap (λ es. listed_at es c.args.key.now) c.self.view_is
