use Rattle.std.proofs.Common.{◌-◌, arith}
use Rattle.rx_books_store.proofs.Sides.{less_before}
use Rattle.rx_books_store.proofs.search.are_below.Goals as goal

pub returns-clause-below : goal.returns-clause-below
returns-clause-below c = λ is i d lt.
    less_before c.args.rows.now c.args.key.now (c.args.end - 1) c.requires
    (c.is_before.ensures.within is) (c.is_before.ensures.less is) i d (omega (arith, lt))
