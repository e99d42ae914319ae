-- The places of each plan are places of the batch, and its share follows those before it.
use Rattle.std.proofs.Common.{◌<◌, List, [], ◌∷◌, ◌++◌, length, map, take, sym, ap, ◌∙◌, arith}
use Rattle.std.proofs.lemmas.List.{map-append, take_more}
use Rattle.rx_switch.specs.declared.open_plans.OpenPlan.{OpenPlan}
use Rattle.rx_switch.specs.RouteParts.{Share, its_share, share_of}
use Rattle.rx_switch.proofs.finished_plans.finish_each.Goals as goal

pub finish_plan-requires-clause-places : goal.finish_plan-requires-clause-places
finish_plan-requires-clause-places c = c.requires.places c.plan-item.result.number

pub loop-plan-preserved : goal.loop-plan-preserved
loop-plan-preserved c =
    let plans = c.args.plans.now in
    let dealt = c.args.dealt.now in
    let at = c.loop-plan.plan-index in
    let plan = c.plan-item.result in
    let share = c.in_ok-share.share in
    let shares = c.loop-plan.shares.items in
    let low : at < length plans = omega arith in
    let more = take_more plans at plan low ∙ ap (λ (p : OpenPlan). take at plans ++ p ∷ []) (sym c.plan-item.is) in
    ap (map share_of) c.in_ok-push.ensures.items
    ∙ map-append share_of shares (share ∷ [])
    ∙ ap (λ (all : List Share). all ++ share_of share ∷ []) c.loop-plan.invariant
    ∙ ap (λ (one : Share). map (its_share dealt) (take at plans) ++ one ∷ []) c.in_ok-share.ensures
    ∙ sym (map-append (its_share dealt) (take at plans) (plan ∷ []))
    ∙ ap (map (its_share dealt)) (sym more)
