-- One plan more.
use Rattle.std.proofs.Common.{rules, ◌≡◌, ◌++◌, [], ◌∷◌, List, append_assoc, length, map, ap, sym, ◌∙◌}
use Rattle.std.specs.Vec.Iter.{into_iter_items}
use Rattle.std.proofs.lemmas.List.{map-append}
use Rattle.rx_switch.specs.declared.open_plans.OpenPlan.{OpenPlan}
use Rattle.rx_switch.specs.RouteParts.{opened}
use Rattle.rx_switch.specs.Routed.{OnePlan}
use Rattle.rx_switch.proofs.Opening.{numbered_next}
use Rattle.rx_switch.proofs.plans_beside.numbered.Goals as goal

pub loop-plan-preserved : goal.loop-plan-preserved
loop-plan-preserved c =
    let so_far = c.loop-plan.so_far.items in
    let plan = c.in-Some.plan in
    let next : OpenPlan = record { number = c.len-number.result; sheet = plan.sheet; books = plan.books } in
    let number : c.len-number.result ≡ length so_far = search rules in
    let same : map opened (so_far ++ next ∷ []) ≡ map opened (c.loop-plan.yielded ++ plan ∷ []) =
    map-append opened so_far (next ∷ [])
    ∙ ap (λ (all : List OnePlan). all ++ opened plan ∷ []) c.loop-plan.invariant.same
    ∙ sym (map-append opened c.loop-plan.yielded (plan ∷ [])) in
    let rest = into_iter_items c.next.new.self in
    let all : (c.loop-plan.yielded ++ plan ∷ []) ++ rest ≡ c.args.read.items =
    append_assoc c.loop-plan.yielded (plan ∷ []) rest ∙ ap (λ ps. c.loop-plan.yielded ++ ps) (sym c.in-Some.ensures.steps.0)
    ∙ c.loop-plan.invariant.all in
    record {
      same = rw c.in_ok-push.ensures.items same;
      numbered = rw c.in_ok-push.ensures.items (numbered_next so_far next c.loop-plan.invariant.numbered number);
      all = all;
      rest = search rules;
    }
