use Rattle.std.proofs.Common.{take, arith}
use Rattle.std.proofs.lemmas.List.{take_more}
use Rattle.rx_books_store.proofs.Openings.{AreHolders-push}
use Rattle.rx_books_store.proofs.holders.holders_in.Goals as goal

pub loop-at-preserved : goal.loop-at-preserved
loop-at-preserved c =
    let is_at = rw c.member.ensures at c.in_ok-place.ensures in
    rw (take_more c.args.run.now c.loop-at.at c.index-run-at.result (omega arith), ← c.index-run-at.is, c.in-Ok.ensures.items)
    (AreHolders-push c.args.members.now (take c.loop-at.at c.args.run.now) c.loop-at.holders.items c.index-run-at.result
    c.in_ok-place.place c.loop-at.invariant is_at)
