use Rattle.std.proofs.Common.{arith}
use Rattle.rx_diagnostics.proofs.LeastApart.{front_ends}
use Rattle.rx_diagnostics.proofs.likeness.in_front.Goals as goal

pub returns-else-count-other : goal.returns-else-count-other
returns-else-count-other c =
    omega (arith, c.loop-count.invariant.value, front_ends c.args.one.now c.args.other.now c.loop-count.count c.if-count-other.false)
