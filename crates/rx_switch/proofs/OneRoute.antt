-- What a switch is given stands for one thing, and so has one output.
use Rattle.std.proofs.Common.{◌≡◌, ℕ, List, [], ◌∷◌, Ok, refl, sym, ap, ◌∙◌, inl, inr}
use Rattle.std.specs.List.{AllZip}
use Rattle.std.specs.Option.{ok_or}
use Rattle.std.proofs.lemmas.Bool.{cases_Bool}
use Rattle.rx_batch.proofs.Readings.{file_is_read}
use Rattle.rx_fields.specs.Clock.{stamp_of}
use Rattle.rx_fields.specs.declared.stamp.Stamp.{Stamp}
use Rattle.rx_wave.specs.Workers.{are_workers}
use Rattle.rx_switch.specs.declared.fault.SwitchFault.TheVariants as fault
use Rattle.rx_switch.specs.Output.{stamp_for}
use Rattle.rx_switch.specs.Routed.{IsRouted, OnePlan, PlanStandsFor, PlanTexts, SwitchGiven, SwitchStandsFor, SwitchTexts, Switched}
use Rattle.rx_switch.specs.Routed.{switch_texts, with_workers}
use Rattle.rx_switch.proofs.OneOutput.{batch_read, books_are, books_read, good_same}

same_plan : (texts : PlanTexts) (p q : OnePlan) → PlanStandsFor texts p → PlanStandsFor texts q → p ≡ q
same_plan texts p q is was =
    let plans : p.plan ≡ q.plan = good_same p.plan q.plan (sym is.sheet ∙ was.sheet) in
    let books : books_read p.period p.opening ≡ books_read q.period q.opening =
    good_same (books_read p.period p.opening) (books_read q.period q.opening)
    (sym (books_are texts.books p.period p.opening is.books) ∙ books_are texts.books q.period q.opening was.books) in
    λ i. record { plan = plans i; period = (books i).period; opening = (books i).ledger }

same_plans : (texts : List PlanTexts) (ps qs : List OnePlan) → AllZip PlanStandsFor texts ps → AllZip PlanStandsFor texts qs
    → ps ≡ qs
same_plans [] [] [] is was = refl
same_plans [] [] (q ∷ qs) is was = absurd was
same_plans [] (p ∷ ps) qs is was = absurd is
same_plans (t ∷ texts) [] qs is was = absurd is
same_plans (t ∷ texts) (p ∷ ps) [] is was = absurd was
same_plans (t ∷ texts) (p ∷ ps) (q ∷ qs) is was =
    let first = same_plan t p q is.0 was.0 in
    let rest = same_plans texts ps qs is.1 was.1 in
    λ i. first i ∷ rest i

-- the stamp of a number of workers that is one
stamp_is : (workers : ℕ) (text : List ℕ) (stamp : Stamp) → stamp_for workers text ≡ Ok stamp
    → ok_or (stamp_of text) fault.Stamp ≡ Ok stamp
stamp_is workers text stamp e = elim (cases_Bool (are_workers workers)) [
  | inl is ↦ rw is at e
  | inr other ↦ absurd (let bad = rw other at e in cc)
]

same_switched : (g : SwitchGiven) (workers : ℕ) (x y : Switched) → SwitchStandsFor g x
    → SwitchStandsFor (with_workers g workers) y → x ≡ y
same_switched g workers x y is was =
    let stamps : x.stamp ≡ y.stamp = good_same x.stamp y.stamp
    (sym (stamp_is g.workers g.stamp x.stamp is.stamp) ∙ stamp_is workers g.stamp y.stamp was.stamp) in
    let plans : x.plans ≡ y.plans = same_plans g.plans x.plans y.plans is.plans.each was.plans.each in
    let batches : batch_read x.head x.details ≡ batch_read y.head y.details =
    good_same (batch_read x.head x.details) (batch_read y.head y.details)
    (sym (file_is_read g.batch x.head x.details is.batch) ∙ file_is_read g.batch y.head y.details was.batch) in
    λ i. record { stamp = stamps i; plans = plans i; head = (batches i).head; details = (batches i).details }

pub same_routed : (g : SwitchGiven) (workers : ℕ) (t u : SwitchTexts) → IsRouted g t → IsRouted (with_workers g workers) u
    → t ≡ u
same_routed g workers t u is was =
    is.texts_are ∙ ap switch_texts (same_switched g workers is.inputs was.inputs is.accepted was.accepted) ∙ sym was.texts_are
