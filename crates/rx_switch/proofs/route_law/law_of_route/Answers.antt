-- The reply to a record is that of the plan that it names.
use Rattle.rx_switch.proofs.Routing.{own_are, reply_unnamed, routed_is}
use Rattle.rx_switch.proofs.route_law.law_of_route.Goals as goal

pub returns-clause-named : goal.returns-clause-named
returns-clause-named c = λ x p is place one to own. routed_is x is.apart is.number p is.low is.is place one to own

pub returns-clause-stray : goal.returns-clause-stray
returns-clause-stray c = λ x place none. reply_unnamed x x.plans place none

pub returns-clause-own : goal.returns-clause-own
returns-clause-own c = λ x p is. own_are x is.apart is.number p is.low is.is
