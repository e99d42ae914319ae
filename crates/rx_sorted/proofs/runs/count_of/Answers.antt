use Rattle.std.proofs.Common.{[], sym, ◌∙◌, arith}
use Rattle.std.proofs.lemmas.Bool.{le-leb, lt-leb}
use Rattle.std.proofs.lemmas.List.{drop_all}
use Rattle.rx_sorted.proofs.InRuns.{accepted, count_left, counted_all}
use Rattle.rx_sorted.proofs.runs.count_of.Goals as goal

pub returns-then-not-follows : goal.returns-then-not-follows
returns-then-not-follows g c =
    let cmp = g.T.Key.Ord.cmp in
    let key = g.T.Keyed.key_of in
    let may_not = rw c.deref.ensures.value at (sym c.follows.ensures ∙ c.if-not-follows.true) in
    let left = count_left cmp key c.loop-run.before.now c.loop-run.count c.args.runs.now c.loop-run.run-index
    c.run-item.result c.loop-run-test.true c.run-item.is in
    sym (left ∙ rw may_not) ∙ c.loop-run.invariant.same ∙ counted_all cmp g.met.T.Key.Ord.total key c.args.runs.now

pub returns-then-len-count : goal.returns-then-len-count
returns-then-len-count g c =
    let cmp = g.T.Key.Ord.cmp in
    let key = g.T.Keyed.key_of in
    let may = rw c.deref.ensures.value at (sym c.follows.ensures ∙ c.if-not-follows.false) in
    let len = c.len.ensures ∙ c.run-item.result.ok.0 in
    let many = le-leb _ _ (rw len at c.if-len-count.true) in
    let left = count_left cmp key c.loop-run.before.now c.loop-run.count c.args.runs.now c.loop-run.run-index
    c.run-item.result c.loop-run-test.true c.run-item.is in
    sym (left ∙ rw (may, many)) ∙ c.loop-run.invariant.same ∙ counted_all cmp g.met.T.Key.Ord.total key c.args.runs.now

pub loop-run-preserved : goal.loop-run-preserved
loop-run-preserved g c =
    let cmp = g.T.Key.Ord.cmp in
    let key = g.T.Keyed.key_of in
    let may = rw c.deref.ensures.value at (sym c.follows.ensures ∙ c.if-not-follows.false) in
    let len = c.len.ensures ∙ c.run-item.result.ok.0 in
    let more = c.len-count.ensures ∙ c.run-item.result.ok.0 in
    let fits = lt-leb _ _ (rw len at c.if-len-count.false) in
    let left = count_left cmp key c.loop-run.before.now c.loop-run.count c.args.runs.now c.loop-run.run-index
    c.run-item.result c.loop-run-test.true c.run-item.is in
    record {
      same = rw (c.deref-before.ensures.value, more) (sym (left ∙ rw (may, fits)) ∙ c.loop-run.invariant.same);
      ascending = rw c.deref-before.ensures.value
          (accepted cmp g.met.T.Key.Ord.total key c.loop-run.before.now c.run-item.result.items []
          c.loop-run.invariant.ascending may).1;
      few = omega arith;
    }

pub returns : goal.returns
returns g c =
    let cmp = g.T.Key.Ord.cmp in
    let key = g.T.Keyed.key_of in
    let done = rw (drop_all c.loop-run.run-index c.args.runs.now c.loop-run-test.false) at c.loop-run.invariant.same in
    done ∙ counted_all cmp g.met.T.Key.Ord.total key c.args.runs.now
