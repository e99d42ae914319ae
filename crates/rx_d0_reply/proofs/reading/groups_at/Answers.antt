use Rattle.rx_d0_reply.specs.Reading.{group_at}
use Rattle.rx_d0_reply.proofs.Loops.{times_goes_on, times_ends, times_is_done}
use Rattle.rx_d0_reply.proofs.reading.groups_at.Goals as goal

pub returns-in_default : goal.returns-in_default
returns-in_default c =
    times_ends group_at c.loop.answers.items c.loop.rest.now c.args.count c.loop.counter c.loop-test.true c.in_default.ensures
    c.loop.invariant

pub loop-preserved : goal.loop-preserved
loop-preserved c =
    rw c.in_ok-push.ensures.items
    (times_goes_on group_at c.loop.answers.items c.loop.rest.now c.in-Some.answer c.in-Some.more.now c.args.count c.loop.counter
    c.loop-test.true c.in-Some.ensures c.loop.invariant)

pub returns : goal.returns
returns c =
    times_is_done group_at c.loop.answers.items c.loop.rest.now c.args.count c.loop.counter c.loop-test.false c.loop.invariant
