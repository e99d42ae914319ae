-- The plan that is found stands at its number.
use Rattle.std.proofs.Common.{◌≡◌, ◌<◌, get_or, length, map, refl, sym, ap, ◌∙◌, arith}
use Rattle.std.specs.List.{slice_get}
use Rattle.std.proofs.lemmas.List.{get_or-map, length-map}
use Rattle.std.proofs.lemmas.Option.{slice_get_read}
use Rattle.rx_d0_request.specs.Doors.{names_plan}
use Rattle.rx_switch.specs.RouteParts.{opened}
use Rattle.rx_switch.proofs.open_plans.plan_with.Goals as goal

pub returns-then-is_same-clause-some : goal.returns-then-is_same-clause-some
returns-then-is_same-clause-some c =
    let all = c.args.so_far.now in
    let at = c.loop-plan.plan-index in
    let plan = c.plan-item.result in
    let low : at < length all = omega arith in
    let long = length-map all opened in
    let there : opened plan ≡ get_or (map opened all) at (opened plan) =
    ap opened c.plan-item.is ∙ sym (get_or-map opened all at plan (opened plan) low) in
    let found = slice_get_read (map opened all) (length (map opened all)) at (opened plan) refl (omega (arith, low, long)) there in (
      opened plan,
      ap (slice_get (map opened all)) c.loop-plan.invariant.0 ∙ found,
      ap (λ d. names_plan d c.args.door.now) (sym c.door.ensures) ∙ sym c.is_same.ensures ∙ c.if-is_same.true,
    )
