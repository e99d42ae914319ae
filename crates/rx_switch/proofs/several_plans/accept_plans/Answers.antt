use Rattle.std.proofs.Common.{refl, sym}
use Rattle.std.proofs.lemmas.Result.{err_from_is_err_and}
use Rattle.rx_switch.specs.RouteParts.{given_route, opened}
use Rattle.rx_switch.specs.RouteRefused.IsNotRouted.{words}
use Rattle.rx_switch.proofs.several_plans.accept_plans.Goals as goal

pub returns-in_err-stamp-clause-refused : goal.returns-in_err-stamp-clause-refused
returns-in_err-stamp-clause-refused g c =
    let p = err_from_is_err_and c.from_residual.result c.from_residual.ensures.1 in
    rw (p.1, p.2) (words c.in_err-stamp.field-0.0 (sym c.in_err-stamp.ensures))

pub returns-in_err-plans-clause-refused : goal.returns-in_err-plans-clause-refused
returns-in_err-plans-clause-refused g c =
    let p = err_from_is_err_and c.from_residual-in_err-plans.result c.from_residual-in_err-plans.ensures.1 in
    rw (p.1, p.2) (c.in_err-plans.ensures.refused (given_route c.args.job.now) c.in_ok-stamp.stamp (sym c.in_ok-stamp.ensures) refl)

pub returns-in_err-batch-clause-refused : goal.returns-in_err-batch-clause-refused
returns-in_err-batch-clause-refused g c =
    let p = err_from_is_err_and c.from_residual-in_err-batch.result c.from_residual-in_err-batch.ensures.1 in
    rw (p.1, p.2) (c.in_err-batch.ensures.refused (given_route c.args.job.now) c.in_ok-stamp.stamp _
    (sym c.in_ok-stamp.ensures) c.in_ok-plans.ensures.opened refl)

pub returns-clause-accepted : goal.returns-clause-accepted
returns-clause-accepted g c =
    record {
      stamp = sym c.in_ok-stamp.ensures;
      plans = c.in_ok-plans.ensures.opened;
      batch = c.in_ok-batch.ensures.read;
    }
