use Rattle.std.proofs.Common.{◌≡◌, ◌<◌, ◌≤◌, ℕ, get_or, length, ◌∙◌, arith, subst}
use Rattle.std.proofs.lemmas.List.{get_or_default}
use Rattle.rx_schedule.specs.Queues.{AreQueues, IsReady}
use Rattle.rx_schedule.proofs.Running.{next_ready, none_ready, runs}
use Rattle.rx_schedule.proofs.queues.Queues.ready.Goals as goal

pub returns-then-self-len-clause-next : goal.returns-then-self-len-clause-next
returns-then-self-len-clause-next c =
    let lt : c.self.inside.handed < length c.self.inside.order.items =
    omega (arith, c.self.inside.order.ok, c.len.ensures) in
    let is : c.index.result.now ≡ get_or c.self.inside.order.items c.self.inside.handed 0 =
    c.index.ensures ∙ get_or_default c.self.inside.order.items c.self.inside.handed c.index.result.now 0 lt in
    subst (λ v. IsReady v c.index.result.now) c.self.view_is
    (rw is (next_ready _ _ _ _ _ _ _ _ c.self.invariant _ lt))

pub returns-then-self-len-clause-within : goal.returns-then-self-len-clause-within
returns-then-self-len-clause-within c = subst (λ v. AreQueues v) c.self.view_is (runs _ _ _ _ _ _ _ _ c.self.invariant)

pub returns-else-self-len-clause-next : goal.returns-else-self-len-clause-next
returns-else-self-len-clause-next c =
    let past : length c.self.inside.order.items ≤ c.self.inside.handed =
    omega (arith, c.self.inside.order.ok, c.len.ensures) in
    subst (λ v. (i : ℕ) → IsReady v i → ⊥) c.self.view_is (none_ready _ _ _ _ _ _ _ _ c.self.invariant _ past)

pub returns-else-self-len-clause-within : goal.returns-else-self-len-clause-within
returns-else-self-len-clause-within c = subst (λ v. AreQueues v) c.self.view_is (runs _ _ _ _ _ _ _ _ c.self.invariant)
