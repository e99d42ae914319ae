-- The array is there and isn't empty.
use Rattle.std.proofs.Common.{◌≤◌, length, sym, arith}
use Rattle.toml.specs.View.{table_view, view}
use Rattle.rx_sheet.proofs.PlanLists.{plans_are}
use Rattle.rx_sheet.proofs.plans.plans.Goals as goal

pub returns : goal.returns
returns c =
    let values = c.in-Some-as_array.array.now.items in
    let given = rw c.as_slice-values.ensures.value at c.plans_of.ensures in
    let some : 1 ≤ length values = omega (arith, c.as_slice-values.ensures.len) in
    rw (plans_are (table_view c.args.tree.now) (view c.in-Some.value.now) values (sym c.in-Some.ensures)
    (sym c.in-Some-as_array.ensures) some) given
