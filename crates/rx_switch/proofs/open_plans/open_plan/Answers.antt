-- The plan's sheet, the door of an earlier one, or its books.
use Rattle.std.proofs.Common.{length, map, refl}
use Rattle.std.proofs.lemmas.Result.{err_from_is_err_and}
use Rattle.rx_switch.specs.RouteParts.{opened, plan_texts}
use Rattle.rx_switch.specs.RouteRefused.IsNotRouted.{door}
use Rattle.rx_switch.proofs.open_plans.open_plan.Goals as goal

pub returns-in_err-sheet-clause-refused : goal.returns-in_err-sheet-clause-refused
returns-in_err-sheet-clause-refused g c switch next =
    let p = err_from_is_err_and c.from_residual.result c.from_residual.ensures.1 in
    rw (p.1, p.2) (c.in_err-sheet.ensures.refused switch (map opened c.args.so_far.now) (plan_texts c.args.plan.now) next refl)

pub returns-in-Some-clause-refused : goal.returns-in-Some-clause-refused
returns-in-Some-clause-refused g c switch next =
    let found = c.in-Some.ensures.some in
    let named = rw c.door.ensures at found.2 in
    door (length c.args.so_far.now) c.in-Some.earlier (map opened c.args.so_far.now) (plan_texts c.args.plan.now)
    c.in_ok-sheet.sheet found.0 next c.in_ok-sheet.ensures.read found.1 named

pub returns-in_err-books-in-None-clause-refused : goal.returns-in_err-books-in-None-clause-refused
returns-in_err-books-in-None-clause-refused g c switch next =
    let p = err_from_is_err_and c.from_residual-in_err-books-in-None.result c.from_residual-in_err-books-in-None.ensures.1 in
    let alone = rw c.door.ensures at c.in-None.ensures.none in
    rw (p.1, p.2) (c.in_err-books-in-None.ensures.refused switch (map opened c.args.so_far.now) (plan_texts c.args.plan.now)
    c.in_ok-sheet.sheet next refl c.in_ok-sheet.ensures.read alone)

pub returns-in_ok-books-in-None-clause-apart : goal.returns-in_ok-books-in-None-clause-apart
returns-in_ok-books-in-None-clause-apart g c = rw c.door.ensures at c.in-None.ensures.none
