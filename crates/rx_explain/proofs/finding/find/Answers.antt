-- The next record and its reply.
use Rattle.std.proofs.Common.{◌<◌, ◌∙◌, length, arith}
use Rattle.rx_explain.specs.Found.{found_at}
use Rattle.rx_explain.proofs.Nexts.{of_batch_next}
use Rattle.rx_explain.proofs.finding.find.Goals as goal

pub loop-before-preserved : goal.loop-before-preserved
loop-before-preserved c =
    let at = c.loop-before.before in
    let in_ts : at < length c.args.transmissions.now = omega arith in
    let in_rs : at < length c.args.replies.now = omega arith in
    rw c.in_ok-put_record.ensures
    (of_batch_next (found_at c.args.query.now) c.args.transmissions.now c.args.replies.now at c.index-transmissions-before.result
    c.index-replies-before.result in_ts in_rs c.index-transmissions-before.is c.index-replies-before.is
    c.loop-before.found.items)
    ∙ c.loop-before.invariant
