use Rattle.std.proofs.Common.{◌+◌, ℕ, List, arith, length-drop}
use Rattle.rx_books_text.proofs.Cuts.{to_end}
use Rattle.rx_books_upkeep.proofs.LineFeeds.{feeds_at, feeds_none}
use Rattle.rx_books_upkeep.proofs.table.line_feeds.Goals as goal

pub loop-end-preserved : goal.loop-end-preserved
loop-end-preserved c =
    let rest : List ℕ = c.loop-end.rest.now in
    let at : ℕ = c.in-Some.end in
    let one = feeds_at rest at c.in-Some.ensures.0.high c.in-Some.ensures.0.before c.in-Some.ensures.1 in
    record {
      same = rw (to_end (at + 1) rest) (omega (arith, one, c.loop-end.invariant.same));
      count = rw (to_end (at + 1) rest)
          (omega (arith, c.loop-end.invariant.count, c.in-Some.ensures.0.high, length-drop (at + 1) rest));
    }

pub returns : goal.returns
returns c = omega (arith, c.loop-end.invariant.same, feeds_none c.loop-end.rest.now c.in_default.ensures)
