-- The lists of the plans and the strays, in file order, are the replies of the switch.
use Rattle.std.proofs.Common.{ℕ, List, length, map, refl, sym, ap, subst, ◌∙◌, arith}
use Rattle.std.specs.List.{range_with_len}
use Rattle.std.proofs.lemmas.List.{length-map}
use Rattle.rx_batch.specs.declared.detail.Detail.{Detail}
use Rattle.rx_d0_request.specs.Doors.{plan_named}
use Rattle.rx_wave.specs.Jobs.{AreReplies}
use Rattle.rx_switch.specs.RouteParts.{switched_by}
use Rattle.rx_switch.specs.Routed.{doors_of, routed_reply}
use Rattle.rx_switch.proofs.Finished.{long_asked}
use Rattle.rx_switch.proofs.several_plans.route_records.Goals as goal

pub finish_plans-requires-clause-few : goal.finish_plans-requires-clause-few
finish_plans-requires-clause-few g c κs within =
    let x = switched_by c.args.stamp c.args.plans.now c.args.batch.now in
    let dealt = c.in_ok-dealt.ensures x refl refl refl (sym (c.deref.ensures.value ∙ c.in_ok-doors.ensures)) in
    let long = long_asked x c.in_ok-dealt.dealt dealt in
    omega (arith, long, c.requires.few)

pub finish_plans-requires-clause-dealt : goal.finish_plans-requires-clause-dealt
finish_plans-requires-clause-dealt g c κs within =
    let x = switched_by c.args.stamp c.args.plans.now c.args.batch.now in
    (x, refl, c.in_ok-dealt.ensures x refl refl refl (sym (c.deref.ensures.value ∙ c.in_ok-doors.ensures)))

pub replies_in_order-requires : goal.replies_in_order-requires
replies_in_order-requires g c =
    let x = switched_by c.args.stamp c.args.plans.now c.args.batch.now in
    let dealt = c.in_ok-dealt.ensures x refl refl refl (sym (c.deref.ensures.value ∙ c.in_ok-doors.ensures)) in
    let done = c.in_ok-finished.ensures x refl c.requires.apart dealt in
    let numbers = c.deref-2.ensures.value ∙ dealt.numbers in (
      routed_reply x,
      subst (λ (ns : List ℕ). AreReplies (routed_reply x) ns (map (λ list. list.items) c.in_ok-finished.finished.lists.items))
          (sym numbers) done.replies,
    )

pub returns-clause-replies : goal.returns-clause-replies
returns-clause-replies g c =
    let x = switched_by c.args.stamp c.args.plans.now c.args.batch.now in
    let dealt = c.in_ok-dealt.ensures x refl refl refl (sym (c.deref.ensures.value ∙ c.in_ok-doors.ensures)) in
    let done = c.in_ok-finished.ensures x refl c.requires.apart dealt in
    let numbers = c.deref-2.ensures.value ∙ dealt.numbers in
    let are = subst (λ (ns : List ℕ). AreReplies (routed_reply x) ns (map (λ list. list.items) c.in_ok-finished.finished.lists.items))
    (sym numbers) done.replies in
    let one_number = length-map x.details (λ (d : Detail). plan_named (doors_of x.plans) d.text) in
    c.in_ok-replies.ensures (routed_reply x) are
    ∙ ap (λ ns. map (routed_reply x) (range_with_len 1 (length ns))) numbers
    ∙ ap (λ n. map (routed_reply x) (range_with_len 1 n)) one_number

pub returns-clause-outputs : goal.returns-clause-outputs
returns-clause-outputs g c =
    let x = switched_by c.args.stamp c.args.plans.now c.args.batch.now in
    let dealt = c.in_ok-dealt.ensures x refl refl refl (sym (c.deref.ensures.value ∙ c.in_ok-doors.ensures)) in
    (c.in_ok-finished.ensures x refl c.requires.apart dealt).outputs
