-- The reply to the next record, or that none is there.
use Rattle.std.proofs.lemmas.Result.{err_from_is_err_and}
use Rattle.rx_switch.specs.JoinParts.{IsPicked}
use Rattle.rx_switch.specs.JoinRefused.IsNotJoined.{memory}
use Rattle.rx_switch.proofs.JoinLists.{zipped_next}
use Rattle.rx_switch.proofs.Joins.{none_refused}
use Rattle.rx_switch.proofs.joined_files.replies_of_plan.Goals as goal

pub returns-in_err-replies-clause-refused : goal.returns-in_err-replies-clause-refused
returns-in_err-replies-clause-refused c g x t p next at file is =
    let e = err_from_is_err_and c.from_residual.result c.from_residual.ensures.1 in
    rw (e.1, e.2) memory

pub returns-in_err-reply-clause-refused : goal.returns-in_err-reply-clause-refused
returns-in_err-reply-clause-refused c g x t p next at file is =
    let e = err_from_is_err_and c.from_residual-in_err-reply.result c.from_residual-in_err-reply.ensures.1 in
    rw (e.1, e.2) (none_refused x c.args.dealt.now is c.args.number p at next.accepted.apart c.args.own.now g t next file
    c.places_of-places.result.now c.places_of-places.ensures c.loop-place.place-index 0 c.loop-place-test.true
    c.loop-place.replies.items c.loop-place.invariant c.in_err-reply.field-0.0 c.in_err-reply.ensures.refused)

pub returns-in_err-push-clause-refused : goal.returns-in_err-push-clause-refused
returns-in_err-push-clause-refused c g x t p next at file is =
    let e = err_from_is_err_and c.from_residual-in_err-push.result c.from_residual-in_err-push.ensures.1 in
    rw (e.1, e.2) memory

pub loop-place-preserved : goal.loop-place-preserved
loop-place-preserved c =
    rw c.in_ok-push.ensures.items
    (zipped_next (IsPicked c.args.dealt.now.lot c.args.dealt.now.asked.items c.args.own.now) c.places_of-places.result.now
    c.loop-place.replies.items c.loop-place.place-index 0 c.in_ok-reply.reply c.loop-place-test.true c.loop-place.invariant
    c.in_ok-reply.ensures.picked)
