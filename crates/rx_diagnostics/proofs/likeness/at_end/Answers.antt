use Rattle.std.proofs.Common.{arith}
use Rattle.rx_diagnostics.proofs.LeastApart.{end_ends, end_more, end_stops}
use Rattle.rx_diagnostics.proofs.likeness.at_end.Goals as goal

pub loop-count-preserved : goal.loop-count-preserved
loop-count-preserved c =
    let more = end_more c.args.one.now c.args.other.now c.loop-count.count c.loop-count-test.true c.if-count-other.true
    c.if-one-count.true in
    record {
      value = omega (arith, c.loop-count.invariant.value, more);
      one = omega arith;
      other = omega arith;
    }

pub returns-else-one-count : goal.returns-else-one-count
returns-else-one-count c =
    let none = end_stops c.args.one.now c.args.other.now c.loop-count.count c.loop-count-test.true c.if-count-other.true
    c.if-one-count.false in
    omega (arith, c.loop-count.invariant.value, none)

pub returns-else-count-other : goal.returns-else-count-other
returns-else-count-other c =
    omega (arith, c.loop-count.invariant.value, end_ends c.args.one.now c.args.other.now c.loop-count.count c.if-count-other.false)
