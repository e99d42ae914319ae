use Rattle.std.proofs.Common.{arith}
use Rattle.rx_run_log.proofs.Kept.{count-block, count-few}
use Rattle.rx_run_log.proofs.marks.line_feeds_by_blocks.Goals as goal

pub overflow_add-count : goal.overflow_add-count
overflow_add-count c =
    let loop = c.loop-block in
    let more = count-block 10 64 loop.count c.count_in-count.result c.args.bytes.now loop.rest.now c.in-Some.block.now
    c.in-Some.after.now loop.invariant c.count_in-count.ensures c.in-Some.ensures.cases.0 c.in-Some.ensures.cases.1 in
    omega (arith, more, count-few 10 c.args.bytes.now, c.requires)

pub loop-block-preserved : goal.loop-block-preserved
loop-block-preserved c =
    let loop = c.loop-block in
    count-block 10 64 loop.count c.count_in-count.result c.args.bytes.now loop.rest.now c.in-Some.block.now c.in-Some.after.now
    loop.invariant c.count_in-count.ensures c.in-Some.ensures.cases.0 c.in-Some.ensures.cases.1
