use Rattle.std.proofs.Common.{◌≡◌, ◌<◌, ◌≤◌, length, ap, sym, ◌∙◌, arith, subst}
use Rattle.rx_schedule.specs.Links.{AreFree, AreLinks, linked}
use Rattle.rx_schedule.proofs.Running.{runs_from}
use Rattle.rx_schedule.proofs.queues.Queues.of.Goals as goal

pub followers_of-requires : goal.followers_of-requires
followers_of-requires c = λ p q some.
    let n : length c.in_ok-uses.uses ≡ length c.args.footprints.now = ap length c.in_ok-uses.ensures in
    let f = c.in_ok-links.ensures.forward p q (subst (λ ls. 1 ≤ linked p q ls) c.deref.ensures.value some) in
    let one : 1 ≤ p = f.0 in
    let after : p < q = f.1 in
    let to : q ≤ length c.in_ok-uses.uses = f.2 in
    (one, omega arith, omega arith, omega arith)

pub invariant_of-result : goal.invariant_of-result
invariant_of-result c =
    let n = length c.args.footprints.now in
    let waiting = c.in_ok-rows.field-0.waiting.items in
    let many : n ≡ length c.of-named.result.value = sym (ap length (c.of-named.ensures ∙ c.in_ok-uses.ensures)) in
    let are = subst (λ fs. AreLinks fs c.deref.result.now) (sym c.of-named.ensures)
    (subst (λ ls. AreLinks c.in_ok-uses.uses ls) (sym c.deref.ensures.value) c.in_ok-links.ensures) in
    let own : c.deref-2.result.now ≡ waiting = c.deref-2.ensures.value in
    let free = subst (λ w. AreFree (length w) w c.in_ok-order.order.items) own c.in_ok-order.ensures.free in
    let room = subst (λ w. length w ≤ Rattle.std.specs.Vec.vec_capacity c.in_ok-order.order) own c.in_ok-order.ensures.room in
    runs_from c.of-named.result.value n c.deref.result.now _ waiting c.in_ok-order.order.items c.in_ok-passed.passed.items _ _
    many are c.in_ok-rows.ensures.rows c.in_ok-rows.ensures.counted free c.in_ok-passed.ensures.items room
    c.in_ok-passed.ensures.capacity
