-- The next value is the next plan, or the first fault.
use Rattle.std.proofs.Common.{◌≡◌, ◌+◌, ◌<◌, ◌∷◌, [], drop, length, map, Ok, Err, sym, ap, ◌∙◌, arith}
use Rattle.std.proofs.lemmas.List.{map-append}
use Rattle.std.proofs.lemmas.Result.{err_from_is_err_and}
use Rattle.toml.specs.View.{items_view, view}
use Rattle.rx_sheet.specs.Plans.{parts_of, plan_of_value, plans_from}
use Rattle.rx_sheet.proofs.PlanLists.{after, ends, goes_on, is_done, items_from, items_gone, weaker}
use Rattle.rx_sheet.proofs.plans.plans_of.Goals as goal

pub returns-in_err-plan : goal.returns-in_err-plan
returns-in_err-plan c =
    let p = err_from_is_err_and c.from_residual-in_err-plan.result c.from_residual-in_err-plan.ensures.1 in
    let f = c.in_err-plan.field-0.0 in
    let values = c.args.array.now in
    let at = c.loop-value.value-index in
    let x = c.value-item.result in
    let front = map parts_of c.loop-value.plans.items in
    let within : at < length values = omega arith in
    let rest = ap (λ items. after front (plans_from (at + 1) items)) (items_from values at x within (sym c.value-item.is)) in
    let failed = rw c.loop-value.invariant.1 at c.in_err-plan.ensures in
    rw (p.1, p.2) (weaker f (plan_of_value (at + 1) (view x) ≡ Err f) (plans_from 1 (items_view values) ≡ Err f)
    (λ fails. sym c.loop-value.invariant.0 ∙ (rest ∙ ends f front (at + 1) (view x) (items_view (drop (at + 1) values)) fails))
    failed)

pub loop-value-preserved : goal.loop-value-preserved
loop-value-preserved c =
    let values = c.args.array.now in
    let at = c.loop-value.value-index in
    let x = c.value-item.result in
    let plan = c.in_ok-plan.plan in
    let front = map parts_of c.loop-value.plans.items in
    let within : at < length values = omega arith in
    let rest = ap (λ items. after front (plans_from (at + 1) items)) (items_from values at x within (sym c.value-item.is)) in
    let more = plans_from (at + 1 + 1) (items_view (drop (at + 1) values)) in
    let read : plan_of_value (at + 1) (view x) ≡ Ok (parts_of plan) = rw c.loop-value.invariant.1 at c.in_ok-plan.ensures in (
      ap (λ ps. after (map parts_of ps) more) c.in_ok-push.ensures.items
          ∙ (ap (λ ps. after ps more) (map-append parts_of c.loop-value.plans.items (plan ∷ []))
          ∙ (goes_on front (at + 1) (view x) (items_view (drop (at + 1) values)) (parts_of plan) read
          ∙ (sym rest ∙ c.loop-value.invariant.0))),
      ap (λ n. n + 1) c.loop-value.invariant.1,
    )

pub returns : goal.returns
returns c =
    let values = c.args.array.now in
    let at = c.loop-value.value-index in
    let front = map parts_of c.loop-value.plans.items in
    sym c.loop-value.invariant.0
    ∙ (ap (λ items. after front (plans_from (at + 1) items)) (items_gone values at (omega arith)) ∙ is_done front (at + 1))
