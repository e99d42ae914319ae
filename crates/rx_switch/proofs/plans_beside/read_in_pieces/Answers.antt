-- The threads give a result for each plan, in order; all are Ok where the whole is.
use Rattle.std.proofs.Common.{ap, ◌∙◌, Global, Vec}
use Rattle.std.specs.Prelude.{IfOk}
use Rattle.std.specs.List.{AllZip}
use Rattle.rayon.proofs.ToStd.{slice-AllZip}
use Rattle.rx_wave.proofs.Gathered.{AllZip-all_ok, IfOk-matched}
use Rattle.rx_switch.specs.declared.open_plans.OpenPlan.{OpenPlan}
use Rattle.rx_switch.specs.declared.plans_beside.Unread.{Unread}
use Rattle.rx_switch.specs.RouteParts.{opened, plan_texts}
use Rattle.rx_switch.specs.Routed.{PlanStandsFor}
use Rattle.rx_switch.proofs.Opening.{IfOk-some}
use Rattle.rx_switch.proofs.plans_beside.read_in_pieces.Goals as goal

pub returns : goal.returns
returns g c =
    let plans = c.args.plans.now in
    let e = c.in-Ok.ensures in
    let slice = ap (λ it. it.base.slice.now) c.map.ensures.base ∙ ap (λ it. it.slice.now) c.with_min_len.ensures.base
    ∙ c.par_iter.ensures in
    let each = slice-AllZip e.1.0 plans (e.1.1 ∙ slice)
    (λ plan r. IfOk r (λ next. PlanStandsFor (plan_texts plan) (opened next))) e.0 e.1.2 in
    let P : Vec OpenPlan Global → Type 0 = λ all. AllZip (λ plan next. PlanStandsFor (plan_texts plan) (opened next)) plans all.items in
    let read = IfOk-matched c.in-Ok.read _ P _ e.2
    (λ all is. rw is.2 (AllZip-all_ok Unread (λ plan next. PlanStandsFor (plan_texts plan) (opened next)) plans is.0
    (rw is.1 at each))) in
    rw c.ok.ensures.value (IfOk-some P c.in-Ok.read read)
