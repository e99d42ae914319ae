-- The share of each plan, in whatever pieces.
use Rattle.std.proofs.Common.{Result, map, ap, subst, ◌∙◌}
use Rattle.std.specs.Prelude.{◌≡◌, IfOk}
use Rattle.std.specs.List.{AllZip}
use Rattle.rayon.proofs.ToStd.{slice-AllZip}
use Rattle.rx_fields.specs.declared.memory.Memory.{Memory}
use Rattle.rx_wave.proofs.Gathered.{AllZip-all_ok, IfOk-matched}
use Rattle.rx_switch.specs.declared.finished_plans.PlanShare.{PlanShare}
use Rattle.rx_switch.specs.declared.open_plans.OpenPlan.{OpenPlan}
use Rattle.rx_switch.specs.RouteParts.{Share, its_share, share_of}
use Rattle.rx_switch.proofs.Mapped.{zipped}
use Rattle.rx_switch.proofs.finished_plans.finish_in_pieces.Goals as goal

pub returns : goal.returns
returns g c =
    let plans = c.args.plans.now in
    let dealt = c.map.result.f.1.now in
    let one : OpenPlan → Share = its_share dealt in
    let IsOne : OpenPlan → Result PlanShare Memory → Type 0 = λ plan r. IfOk r (λ share. share_of share ≡ one plan) in
    let e = c.in_ok-collect.ensures in
    let slice = ap (λ it. it.base.slice.now) c.map.ensures.base ∙ ap (λ it. it.slice.now) c.with_min_len.ensures.base
    ∙ c.par_iter.ensures in
    let each : AllZip IsOne plans e.0 = slice-AllZip e.1.0 plans (e.1.1 ∙ slice) IsOne e.0 e.1.2 in
    IfOk-matched c.in_ok-collect.field-0 _ _ _ e.2 (λ v k.
    subst (λ d. map share_of v.items ≡ map (its_share d) plans) (ap (λ f. f.1.now) c.map.ensures.f)
    (ap (map share_of) k.2 ∙ zipped share_of one plans k.0 (AllZip-all_ok Memory (λ plan share. share_of share ≡ one plan) plans k.0
    (subst (AllZip IsOne plans) k.1 each))))
