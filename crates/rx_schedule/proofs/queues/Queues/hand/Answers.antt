use Rattle.std.specs.Prelude.{IsSome}
use Rattle.std.proofs.Common.{subst, sym}
use Rattle.rx_schedule.proofs.Running.{hands, some_next}
use Rattle.rx_schedule.proofs.queues.Queues.hand.Goals as goal

pub invariant_of-self : goal.invariant_of-self
invariant_of-self c = hands _ _ _ _ _ _ _ _ c.self.invariant
    (some_next c.self.inside.order.items c.self.inside.handed (subst (λ v. IsSome v.next) (sym c.self.view_is) c.requires))
