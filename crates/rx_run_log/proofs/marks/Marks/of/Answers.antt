use Rattle.std.proofs.Common.{arith}
use Rattle.rx_batch.specs.declared.layout.TheConstants.{STX}
use Rattle.rx_run_log.proofs.Kept.{count-block, count-few}
use Rattle.rx_run_log.proofs.marks.Marks.of.Goals as goal

pub overflow_add-line_feeds : goal.overflow_add-line_feeds
overflow_add-line_feeds c =
    let loop = c.loop-block in
    let more = count-block 10 64 loop.line_feeds c.count_in-line_feeds.result c.args.bytes.now loop.rest.now c.in-Some.block.now
    c.in-Some.after.now loop.invariant.line_feeds c.count_in-line_feeds.ensures c.in-Some.ensures.cases.0
    c.in-Some.ensures.cases.1 in
    omega (arith, more, count-few 10 c.args.bytes.now, c.requires)

pub overflow_add-starts : goal.overflow_add-starts
overflow_add-starts c =
    let loop = c.loop-block in
    let more = count-block STX 64 loop.starts c.count_in-starts.result c.args.bytes.now loop.rest.now c.in-Some.block.now
    c.in-Some.after.now loop.invariant.starts c.count_in-starts.ensures c.in-Some.ensures.cases.0
    c.in-Some.ensures.cases.1 in
    omega (arith, more, count-few STX c.args.bytes.now, c.requires)

pub loop-block-preserved : goal.loop-block-preserved
loop-block-preserved c =
    let loop = c.loop-block in
    record {
      line_feeds = count-block 10 64 loop.line_feeds c.count_in-line_feeds.result c.args.bytes.now loop.rest.now
          c.in-Some.block.now c.in-Some.after.now loop.invariant.line_feeds c.count_in-line_feeds.ensures
          c.in-Some.ensures.cases.0 c.in-Some.ensures.cases.1;
      starts = count-block STX 64 loop.starts c.count_in-starts.result c.args.bytes.now loop.rest.now
          c.in-Some.block.now c.in-Some.after.now loop.invariant.starts c.count_in-starts.ensures
          c.in-Some.ensures.cases.0 c.in-Some.ensures.cases.1;
    }
