use Rattle.std.proofs.Common.{[], ap}
use Rattle.rx_ledger.specs.Ledger.{Ledger}
use Rattle.rx_books_upkeep.proofs.Cuts.{all_cut, one_more}
use Rattle.rx_books_upkeep.proofs.cut_claims.cut_standing.Goals as goal

pub rows-init : goal.rows-init
rows-init c = record {
  done = [];
  split = ap (λ (L : Ledger). L.rows) c.standing-standing.ensures.value;
  cut = c.in_ok-cut.ensures c.args.percent c.args.day;
}

pub rows-preserved : goal.rows-preserved
rows-preserved c =
    let far = c.rows.invariant in
    one_more c.args.percent c.args.day c.args.books.now.books.ledger.rows c.rows.standing.rows c.next_row.new.self.rows c.in-Some.row.now
    c.rows.cut c.take.new.self far c.in-Some.ensures.row (c.in_ok-take.ensures far.done far.cut)

pub returns : goal.returns
returns c =
    all_cut c.args.percent c.args.day c.args.books.now.books.ledger.rows c.rows.standing.rows c.rows.cut c.rows.invariant
    c.in_default.ensures.none
