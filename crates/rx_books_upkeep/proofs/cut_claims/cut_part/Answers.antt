use Rattle.std.proofs.Common.{[]}
use Rattle.rx_books_upkeep.proofs.Cuts.{all_cut, one_more}
use Rattle.rx_books_upkeep.proofs.cut_claims.cut_part.Goals as goal

pub claims-init : goal.claims-init
claims-init c = record {
  done = [];
  split = c.again-claims.ensures;
  cut = c.in_ok-cut.ensures c.args.percent c.args.day;
}

pub claims-preserved : goal.claims-preserved
claims-preserved c =
    let far = c.claims.invariant in
    one_more c.args.percent c.args.day c.args.part.now c.claims.claims c.next_claim.new.self c.in-Some.row.now c.claims.cut c.take.new.self
    far c.in-Some.ensures.claim (c.in_ok-take.ensures far.done far.cut)

pub returns : goal.returns
returns c =
    all_cut c.args.percent c.args.day c.args.part.now c.claims.claims c.claims.cut c.claims.invariant c.in_default.ensures.none
