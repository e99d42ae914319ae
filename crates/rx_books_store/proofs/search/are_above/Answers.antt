use Rattle.std.proofs.Common.{sym, ap, ◌∙◌}
use Rattle.std.specs.Ordering.{is_gt}
use Rattle.rx_books_store.proofs.Sides.{greater_behind, greater_there}
use Rattle.rx_books_store.proofs.search.are_above.Goals as goal

pub returns : goal.returns
returns c = λ is.
    greater_behind c.args.rows.now c.args.key.now c.args.from c.requires
    (greater_there c.args.rows.now c.args.key.now c.args.from c.at.result.now c.at.ensures
    (ap is_gt (sym c.cmp.ensures) ∙ sym c.is_gt.ensures ∙ is))
