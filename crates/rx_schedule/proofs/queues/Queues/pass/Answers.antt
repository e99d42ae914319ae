use Rattle.std.proofs.Common.{◌≡◌, ◌≤◌, length, map, ap, sym, ◌∙◌, arith, subst}
use Rattle.std.proofs.lemmas.List.{length-map}
use Rattle.rx_schedule.specs.Links.{AreCounted, AreFree, row_of}
use Rattle.rx_schedule.specs.Machine.{Was}
use Rattle.rx_schedule.proofs.Running.{pass_room, pass_there, passes, written_back}
use Rattle.rx_schedule.proofs.queues.Queues.pass.Goals as goal

pub push_reserved-requires : goal.push_reserved-requires
push_reserved-requires c =
    let handed = subst (λ v. Was c.args.place v.handed) (sym c.self.view_is) c.requires.handed in
    let unpassed = subst (λ v. Was c.args.place v.passed → ⊥) (sym c.self.view_is) c.requires.unpassed in
    omega (arith, c.self.inside.passed.ok, pass_room _ _ _ _ _ _ _ _ c.self.invariant c.args.place handed unpassed)

pub release-requires-clause-there : goal.release-requires-clause-there
release-requires-clause-there c =
    let q = c.self.inside in
    let handed = subst (λ v. Was c.args.place v.handed) (sym c.self.view_is) c.requires.handed in
    let unpassed = subst (λ v. Was c.args.place v.passed → ⊥) (sym c.self.view_is) c.requires.unpassed in
    let there = pass_there _ _ _ _ _ _ _ _ c.self.invariant c.args.place handed unpassed in
    let to : c.args.place ≤ length q.footprints.value = there.1 in
    let many = c.self.invariant.counted.as_many_rows in
    let same = length-map q.followers.items (λ v. v.items) in
    let own = ap length c.deref_mut.ensures.value in
    (there.0, omega (arith, many, same, own))

pub invariant_of-self : goal.invariant_of-self
invariant_of-self c =
    let q = c.self.inside in
    let handed = subst (λ v. Was c.args.place v.handed) (sym c.self.view_is) c.requires.handed in
    let unpassed = subst (λ v. Was c.args.place v.passed → ⊥) (sym c.self.view_is) c.requires.unpassed in
    let rows = written_back c.release.new.rows q.followers.items q.followers.len (omega arith) in
    let waiting = written_back c.release.new.waiting q.waiting.items q.waiting.len (omega arith) in
    let many = c.self.invariant.counted.as_many_rows in
    let same = length-map q.followers.items (λ v. v.items) in
    let own = c.deref_mut.ensures.value in
    let long : length c.deref_mut.result.now ≡ length q.footprints.value = ap length own ∙ sym same ∙ many in
    rw (rows, waiting) (passes _ _ _ _ _ _ _ _ c.self.invariant c.args.place handed unpassed
    (map (λ v. v.items) c.release.new.rows) c.release.new.waiting c.release.new.order.items c.push_reserved.new.self.items _ _
    (subst (λ n. AreCounted n (map (λ v. v.items) c.release.new.rows) c.release.new.waiting) long c.release.ensures.counted)
    (subst (λ n. AreFree n c.release.new.waiting c.release.new.order.items) long c.release.ensures.free)
    c.release.ensures.emptied
    (λ p one apart. c.release.ensures.others p one apart ∙ ap (λ rs. row_of (map (λ v. v.items) rs) p) own)
    c.release.ensures.more c.push_reserved.ensures.items c.release.ensures.room c.push_reserved.ensures.capacity)
