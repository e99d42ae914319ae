-- The shares of the plans so far.
use Rattle.std.proofs.Common.{◌≡◌, map, take}
use Rattle.rx_switch.specs.RouteParts.{its_share, share_of}
use Rattle.rx_switch.proofs.finished_plans.finish_each.Given as goal

abbrev pub invariant-loop-plan : goal.invariant-loop-plan
invariant-loop-plan l = map share_of l.shares.items ≡ map (its_share l.dealt) (take l.plan-index l.plans)
