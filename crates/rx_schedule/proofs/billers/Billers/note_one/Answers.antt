use Rattle.std.proofs.Common.{◌≡◌, [], Some, refl, ap, sym, ◌∙◌}
use Rattle.std.specs.BTreeMap.{get}
use Rattle.std.specs.BTreeSet.{insert_key}
use Rattle.std.specs.Prelude.{IsSome}
use Rattle.rx_fields.specs.Order.{id_cmp, key_cmp}
use Rattle.rx_schedule.specs.Billed.{billed_families, families_kept}
use Rattle.rx_schedule.proofs.Noted.{noted}
use Rattle.rx_schedule.proofs.billers.Billers.note_one.Goals as goal

pub returns-in_ok-insert-in-Some : goal.returns-in_ok-insert-in-Some
returns-in_ok-insert-in-Some c =
    let m = c.args.self.now.families in
    let there : get key_cmp m c.args.key ≡ Some c.in-Some.families.now = sym c.in-Some.ensures.value in
    let kept : IsSome (get key_cmp m c.args.key) = rw there refl in
    noted m (c.get_mut.follows.lender c.insert.new.self) c.args.key c.insert.new.self c.args.family
    (((c.get_mut.follows.holds c.insert.new.self).3 kept).0)
    (c.in_ok-insert-in-Some.ensures.keys ∙ ap (λ families. insert_key id_cmp families c.args.family) (sym (ap families_kept there)))

pub returns-in_ok-insert-in-None-2 : goal.returns-in_ok-insert-in-None-2
returns-in_ok-insert-in-None-2 c =
    let m = c.args.self.now.families in
    let kept = c.get_mut.follows.holds-at-none in
    let none : billed_families m c.args.key ≡ [] = ap families_kept (sym c.in-None.ensures.value) in
    noted m c.insert-in-None-2.new.self c.args.key c.insert-in-None.new.self c.args.family
    (rw kept at c.in_ok-insert-in-None-2.ensures.updates.0)
    (c.in_ok-insert-in-None.ensures.keys ∙ rw (c.new-families.ensures.empty, none))
