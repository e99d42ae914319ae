use Rattle.std.proofs.Common.{[]}
use Rattle.rx_books_upkeep.proofs.cut_claims.cut_in_one.Goals as goal

pub returns : goal.returns
returns c =
    c.in_ok-take.ensures c.args.percent c.args.day [] c.args.books.now.books.ledger.rows
    (c.none-cuts.ensures c.args.percent c.args.day) c.in_ok-cut.ensures
