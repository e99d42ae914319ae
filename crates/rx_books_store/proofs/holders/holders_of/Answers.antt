use Rattle.std.proofs.Common.{List, subst, ap, ◌∙◌, arith}
use Rattle.std.proofs.lemmas.List.{take_all}
use Rattle.rx_sorted.specs.Runs.{items_of}
use Rattle.rx_ledger.specs.declared.row.Row.{Row}
use Rattle.rx_books_store.specs.Store.{AreHolders}
use Rattle.rx_books_store.proofs.Openings.{AreHolders-run}
use Rattle.rx_books_store.proofs.holders.holders_of.Goals as goal

pub loop-run-preserved : goal.loop-run-preserved
loop-run-preserved c =
    let runs = c.runs-runs.result.now in
    let i = c.loop-run.run-index in
    let one = rw c.deref.ensures.value at c.in_ok-more.ensures in
    rw (c.in-Ok.ensures.items, c.deref-in-loop-run.ensures.value) (AreHolders-run c.args.members.now runs i
    c.run-item.result c.loop-run.holders.items c.in_ok-more.more.items c.loop-run-test.true c.run-item.is
    c.loop-run.invariant one)

pub returns : goal.returns
returns c =
    let runs = c.runs-runs.result.now in
    let all = ap items_of (take_all c.loop-run.run-index runs (omega arith)) ∙ c.runs-runs.ensures.value in
    record {
      rise = c.runs-runs.ensures.ascending;
      few = c.runs-runs.ensures.small;
      held_by = subst (λ (rs : List Row). AreHolders c.args.members.now rs c.loop-run.holders.items) all c.loop-run.invariant;
    }
