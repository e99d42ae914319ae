use Rattle.std.proofs.Common.{◌+◌, drop, sym, ◌∙◌}
use Rattle.std.proofs.lemmas.List.{drop_all}
use Rattle.rx_sorted.specs.Runs.{items_of}
use Rattle.rx_sorted.proofs.InRuns.{items_left, IsAscending-reached, IsAt-reached, IsGap-reached, IsGap-reached_end}
use Rattle.rx_sorted.proofs.InRuns.{reached_next}
use Rattle.rx_sorted.proofs.runs.search.Goals as goal

pub is_past-requires : goal.is_past-requires
is_past-requires g c =
    let left = items_left c.args.runs.now c.loop-run.run-index c.run-item.result c.loop-run-test.true c.run-item.is in
    let reached = rw left at c.loop-run.invariant in
    let others = items_of (drop (c.loop-run.run-index + 1) c.args.runs.now) in
    rw c.deref.ensures.value (IsAscending-reached g.T.Key.Ord.cmp g.met.T.Key.Ord.total g.T.Keyed.key_of
    (items_of c.args.runs.now) c.args.key.now c.loop-run.start c.run-item.result.items others reached
    c.requires.ascending)

pub place_of-requires : goal.place_of-requires
place_of-requires g c =
    let left = items_left c.args.runs.now c.loop-run.run-index c.run-item.result c.loop-run-test.true c.run-item.is in
    let reached = rw left at c.loop-run.invariant in
    let others = items_of (drop (c.loop-run.run-index + 1) c.args.runs.now) in
    rw c.deref-then-not-is_past.ensures.value (IsAscending-reached g.T.Key.Ord.cmp g.met.T.Key.Ord.total
    g.T.Keyed.key_of (items_of c.args.runs.now) c.args.key.now c.loop-run.start c.run-item.result.items others reached
    c.requires.ascending)

pub returns-in-Ok-clause-found : goal.returns-in-Ok-clause-found
returns-in-Ok-clause-found g c =
    let left = items_left c.args.runs.now c.loop-run.run-index c.run-item.result c.loop-run-test.true c.run-item.is in
    let reached = rw left at c.loop-run.invariant in
    let others = items_of (drop (c.loop-run.run-index + 1) c.args.runs.now) in
    IsAt-reached g.T.Key.Ord.cmp g.met.T.Key.Ord.total g.T.Keyed.key_of (items_of c.args.runs.now) c.args.key.now
    c.loop-run.start c.run-item.result.items others reached c.in-Ok.at
    (rw c.deref-then-not-is_past.ensures.value at c.in-Ok.ensures.found)

pub returns-in-Err-clause-absent : goal.returns-in-Err-clause-absent
returns-in-Err-clause-absent g c =
    let left = items_left c.args.runs.now c.loop-run.run-index c.run-item.result c.loop-run-test.true c.run-item.is in
    let reached = rw left at c.loop-run.invariant in
    let others = items_of (drop (c.loop-run.run-index + 1) c.args.runs.now) in
    let not_past = rw c.deref.ensures.value at (sym c.is_past.ensures ∙ c.if-not-is_past.true) in
    IsGap-reached g.T.Key.Ord.cmp g.met.T.Key.Ord.total g.T.Keyed.key_of (items_of c.args.runs.now) c.args.key.now
    c.loop-run.start c.run-item.result.items others reached c.in-Err.at c.requires.ascending not_past
    (rw c.deref-then-not-is_past.ensures.value at c.in-Err.ensures.absent)

pub loop-run-preserved : goal.loop-run-preserved
loop-run-preserved g c =
    let left = items_left c.args.runs.now c.loop-run.run-index c.run-item.result c.loop-run-test.true c.run-item.is in
    let reached = rw left at c.loop-run.invariant in
    let others = items_of (drop (c.loop-run.run-index + 1) c.args.runs.now) in
    let past = rw c.deref.ensures.value at (sym c.is_past.ensures ∙ c.if-not-is_past.false) in
    rw (c.len-start.ensures ∙ c.run-item.result.ok.0)
    (reached_next g.T.Key.Ord.cmp g.met.T.Key.Ord.total g.T.Keyed.key_of (items_of c.args.runs.now) c.args.key.now
    c.loop-run.start c.run-item.result.items others reached past)

pub returns-clause-absent : goal.returns-clause-absent
returns-clause-absent g c =
    IsGap-reached_end g.T.Key.Ord.cmp g.met.T.Key.Ord.total g.T.Keyed.key_of (items_of c.args.runs.now)
    c.args.key.now c.loop-run.start
    (rw (drop_all c.loop-run.run-index c.args.runs.now c.loop-run-test.false) at c.loop-run.invariant)
