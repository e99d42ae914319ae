use Rattle.rx_d0_reply.proofs.Loops.{behind_goes_on, behind_ends, behind_is_done}
use Rattle.rx_d0_reply.proofs.reading.fields.behind.Goals as goal

pub returns-in_err-rest : goal.returns-in_err-rest
returns-in_err-rest c =
    rw c.from_residual.ensures
    (behind_ends c.args.text.now c.loop.rest.now c.args.count c.loop.counter c.loop-test.true c.in_err-rest.ensures c.loop.invariant)

pub loop-preserved : goal.loop-preserved
loop-preserved c =
    behind_goes_on c.args.text.now c.loop.rest.now c.in_ok-rest.rest.now c.args.count c.loop.counter c.loop-test.true
    c.in_ok-rest.ensures c.loop.invariant

pub returns : goal.returns
returns c =
    behind_is_done c.args.text.now c.loop.rest.now c.args.count c.loop.counter c.loop-test.false c.loop.invariant
