use Rattle.std.proofs.Common.{◌∙◌}
use Rattle.rx_books_family.proofs.family.Family.row.Goals as goal

pub returns : goal.returns
returns c = rw (← c.self.view_is) (c.copied.ensures ∙ c.get.ensures)
