use Rattle.std.proofs.Common.{◌+◌, length, drop, sym, ap, ◌∙◌, arith, length-append}
use Rattle.rx_sorted.specs.Runs.{items_of}
use Rattle.rx_sorted.proofs.InRuns.{get-here, get-behind, items_left}
use Rattle.rx_sorted.proofs.runs.item_of.Goals as goal

pub returns-then-rest-len : goal.returns-then-rest-len
returns-then-rest-len g c =
    let left = items_left c.args.runs.now c.loop-run.run-index c.run-item.result c.loop-run-test.true c.run-item.is in
    let len = c.len.ensures ∙ c.run-item.result.ok.0 in
    let others = items_of (drop (c.loop-run.run-index + 1) c.args.runs.now) in
    sym (rw left at c.loop-run.invariant.same)
    ∙ get-here c.run-item.result.items others c.loop-run.rest c.index.result.now (rw len at c.if-rest-len.true)
    c.index.ensures

pub loop-run-preserved : goal.loop-run-preserved
loop-run-preserved g c =
    let left = items_left c.args.runs.now c.loop-run.run-index c.run-item.result c.loop-run-test.true c.run-item.is in
    let len = c.len.ensures ∙ c.run-item.result.ok.0 in
    let more = c.len-rest.ensures ∙ c.run-item.result.ok.0 in
    let others = items_of (drop (c.loop-run.run-index + 1) c.args.runs.now) in
    record {
      in_range = omega (
        arith,
        len,
        more,
        c.if-rest-len.false,
        c.loop-run.invariant.in_range,
        ap length left,
        length-append c.run-item.result.items others,
      );
      same = rw more (sym (get-behind c.run-item.result.items others c.loop-run.rest (rw len at c.if-rest-len.false))
          ∙ rw left at c.loop-run.invariant.same);
    }
