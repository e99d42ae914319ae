use Rattle.std.proofs.lemmas.Result.{err_from_is_err_and}
use Rattle.rx_commands.proofs.CycleRead.{bad_detail, detail_more}
use Rattle.rx_commands.proofs.cycle.reading.add_replies.Goals as goal

pub returns-in_err-reply-clause-refused : goal.returns-in_err-reply-clause-refused
returns-in_err-reply-clause-refused c =
    let p = err_from_is_err_and c.from_residual.result c.from_residual.ensures.1 in
    let here = rw c.bytes.ensures at c.in_err-reply.ensures.refused in
    rw (p.1, p.2)
    (bad_detail c.args.at c.args.details.now c.loop-before.before c.index-details-before.result c.args.replies.now.items
    c.loop-before.replies.items c.in_err-reply.field-0.0 c.loop-before-test.true c.index-details-before.is
    c.loop-before.invariant here)

pub loop-before-preserved : goal.loop-before-preserved
loop-before-preserved c =
    let here = rw c.bytes.ensures at c.in_ok-reply.ensures.read in
    rw c.in_ok-push.ensures.items
    (detail_more c.args.details.now c.loop-before.before c.index-details-before.result c.args.replies.now.items
    c.loop-before.replies.items c.in_ok-reply.reply c.loop-before-test.true c.index-details-before.is
    c.loop-before.invariant here)
