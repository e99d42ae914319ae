use Rattle.std.proofs.lemmas.Result.{err_from_is_err_and}
use Rattle.rx_switch.specs.RouteParts.{switched_of}
use Rattle.rx_switch.specs.RouteRefused.IsNotRouted.{memory}
use Rattle.rx_switch.proofs.several_plans.route.Goals as goal

pub returns-in_err-accepted-clause-refused : goal.returns-in_err-accepted-clause-refused
returns-in_err-accepted-clause-refused g c =
    let p = err_from_is_err_and c.from_residual.result c.from_residual.ensures.1 in
    rw (p.1, p.2) c.in_err-accepted.ensures.refused

pub route_accepted-requires-clause-few : goal.route_accepted-requires-clause-few
route_accepted-requires-clause-few g c κs within = c.in_ok-accepted.ensures.accepted.batch.few

pub route_accepted-requires-clause-apart : goal.route_accepted-requires-clause-apart
route_accepted-requires-clause-apart g c κs within = c.in_ok-accepted.ensures.accepted.plans.apart

pub route_accepted-requires-clause-numbered : goal.route_accepted-requires-clause-numbered
route_accepted-requires-clause-numbered g c κs within = c.in_ok-accepted.ensures.numbered

pub returns-in_err-route_accepted-clause-refused : goal.returns-in_err-route_accepted-clause-refused
returns-in_err-route_accepted-clause-refused g c =
    let p = err_from_is_err_and c.from_residual-in_err-route_accepted.result c.from_residual-in_err-route_accepted.ensures.1 in
    rw (p.1, p.2) (memory c.in_ok-accepted.accepted.stamp c.in_ok-accepted.ensures.accepted.stamp)

pub returns-clause-output : goal.returns-clause-output
returns-clause-output g c =
    record {
      inputs = switched_of c.in_ok-accepted.accepted;
      accepted = c.in_ok-accepted.ensures.accepted;
      texts_are = c.in_ok-route_accepted.ensures;
    }
