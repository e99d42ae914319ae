use Rattle.std.proofs.Common.{sym, ap, ◌∙◌}
use Rattle.std.specs.Ordering.{is_lt}
use Rattle.rx_books_store.proofs.Sides.{less_there}
use Rattle.rx_books_store.proofs.search.is_before.Goals as goal

pub returns-clause-less : goal.returns-clause-less
returns-clause-less c = λ is d.
    less_there c.args.rows.now c.args.key.now c.args.place c.at.result.now c.at.ensures
    (ap is_lt (sym c.cmp.ensures) ∙ sym c.is_lt.ensures ∙ is) d
