-- The inputs stand for one thing.
use Rattle.rx_switch.proofs.OneRoute.{same_routed}
use Rattle.rx_switch.proofs.route_law.law_of_one_route.Goals as goal

pub returns : goal.returns
returns c = λ g workers t u is was. same_routed g workers t u is was
