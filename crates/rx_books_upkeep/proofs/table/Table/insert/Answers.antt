use Rattle.std.proofs.Common.{ap, sym}
use Rattle.std.specs.Prelude.{Ok}
use Rattle.rx_books_upkeep.proofs.table.Table.insert.Goals as goal

pub returns : goal.returns
returns c = rw (← c.self.view_is) (ap Ok (sym c.in_ok-insert.ensures.entries))
