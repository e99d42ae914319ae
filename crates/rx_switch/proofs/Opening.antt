-- The plans of a switch are opened one after another.
use Rattle.std.proofs.Common.{◌≡◌, ℕ, ◌+◌, ◌<◌, Bool, true, false, not, List, [], ◌∷◌, ◌++◌, get_or, length, map, take, refl, ap, sym}
use Rattle.std.proofs.Common.{subst, ◌∙◌, arith, Ok}
use Rattle.std.specs.Prelude.{IfOk, IfSome, Result, Err}
use Rattle.std.specs.Result.{result_ok}
use Rattle.std.specs.List.{AllZip, list_any, range_with_len, slice_get}
use Rattle.std.proofs.lemmas.Bool.{and_from, and_parts}
use Rattle.std.proofs.lemmas.List.{get_or-map, length-append, length-map, map-append, map-id, take_more}
use Rattle.std.proofs.lemmas.List.FromFn.{map-range_with_len_more}
use Rattle.std.proofs.lemmas.List.Folds.{list_any-append}
use Rattle.std.proofs.lemmas.Option.{slice_get_read}
use Rattle.rx_d0_request.specs.Doors.{names_plan}
use Rattle.rx_fields.specs.declared.door.Door.{Door}
use Rattle.rx_fields.specs.declared.stamp.Stamp.{Stamp}
use Rattle.rx_switch.specs.declared.open_plans.OpenPlan.{OpenPlan}
use Rattle.rx_switch.specs.declared.route_job.PlanJob.{PlanJob}
use Rattle.rx_switch.specs.Output.{stamp_for}
use Rattle.rx_switch.specs.RouteParts.{AreNumbered, opened, plan_texts}
use Rattle.rx_switch.specs.RouteRefused.{IsNext}
use Rattle.rx_switch.specs.Routed.{AreAccepted, PlanStandsFor, PlanTexts, SwitchGiven, are_apart, door_of, doors_of}
use Rattle.rx_switch.proofs.Routing.{or_parts}

pub AllZip-more : {A B : Type 0} (R : A → B → Type 0) (xs : List A) (ys : List B) (x : A) (y : B) → AllZip R xs ys → R x y
    → AllZip R (xs ++ x ∷ []) (ys ++ y ∷ [])
AllZip-more R [] [] x y all r = (r, tt)
AllZip-more R [] (b ∷ ys) x y all r = absurd all
AllZip-more R (a ∷ xs) [] x y all r = absurd all
AllZip-more R (a ∷ xs) (b ∷ ys) x y all r = (all.0, AllZip-more R xs ys x y all.1 r)

not_is : (b : Bool) → not b ≡ true → b ≡ false
not_is true e = absurd (let bad : false ≡ true = e in cc)
not_is false e = refl

-- a door that none of the others is may follow them
pub apart-more : (doors : List Door) (d : Door) → are_apart doors ≡ true → list_any (λ e. names_plan e d) doors ≡ false
    → are_apart (doors ++ d ∷ []) ≡ true
apart-more [] d apart none = refl
apart-more (e ∷ doors) d apart none =
    let parts = and_parts (not (list_any (names_plan e) doors)) (are_apart doors) apart in
    let others = or_parts (names_plan e d) (list_any (λ f. names_plan f d) doors) none in
    let named_by_none : list_any (names_plan e) (doors ++ d ∷ []) ≡ false =
    list_any-append (names_plan e) doors (d ∷ [])
    ∙ rw (not_is (list_any (names_plan e) doors) parts.0, others.0) refl in
    and_from (not (list_any (names_plan e) (doors ++ d ∷ []))) (are_apart (doors ++ d ∷ [])) (ap not named_by_none)
    (apart-more doors d parts.1 others.1)

-- one number more
range_more : (n : ℕ) → range_with_len 0 (n + 1) ≡ range_with_len 0 n ++ n ∷ []
range_more n =
    let e : 0 + n ≡ n = omega arith in
    sym (map-id (range_with_len 0 (n + 1))) ∙ map-range_with_len_more (λ (k : ℕ). k) 0 n n e
    ∙ ap (λ ns. ns ++ n ∷ []) (map-id (range_with_len 0 n))

module _ (jobs : List PlanJob) (so_far : List OpenPlan) (at : ℕ) (job : PlanJob) (is : job ≡ get_or jobs at job) (low : at < length jobs)
    (accepted : AreAccepted (take at (map plan_texts jobs)) (map opened so_far)) where
  abbrev texts : List PlanTexts
  texts = map plan_texts jobs

  low_text : at < length texts
  low_text = let long = length-map jobs plan_texts in omega (arith, low, long)

  is_text : plan_texts job ≡ get_or texts at (plan_texts job)
  is_text = ap plan_texts is ∙ sym (get_or-map plan_texts jobs at job (plan_texts job) low)

  -- with one more plan
  pub accepted_next : (next : OpenPlan) → PlanStandsFor (plan_texts job) (opened next)
      → list_any (λ door. names_plan door (door_of (opened next))) (doors_of (map opened so_far)) ≡ false
      → AreAccepted (take (at + 1) texts) (map opened (so_far ++ next ∷ []))
  accepted_next next stands alone =
      let plans : map opened (so_far ++ next ∷ []) ≡ map opened so_far ++ opened next ∷ [] = map-append opened so_far (next ∷ []) in
      let taken : take (at + 1) texts ≡ take at texts ++ plan_texts job ∷ [] =
      take_more texts at (plan_texts job) low_text ∙ ap (λ t. take at texts ++ t ∷ []) (sym is_text) in
      let doors : doors_of (map opened so_far ++ opened next ∷ []) ≡ doors_of (map opened so_far) ++ door_of (opened next) ∷ [] =
      map-append door_of (map opened so_far) (opened next ∷ []) in
      rw (plans, taken) record {
        each = AllZip-more PlanStandsFor (take at texts) (map opened so_far) (plan_texts job) (opened next) accepted.each stands;
        apart = ap are_apart doors
            ∙ apart-more (doors_of (map opened so_far)) (door_of (opened next)) accepted.apart alone;
      }

  -- the texts of the next plan
  pub is_next : (g : SwitchGiven) (s : Stamp) → stamp_for g.workers g.stamp ≡ Ok s → g.plans ≡ texts → length so_far ≡ at
      → IsNext g (length so_far) (map opened so_far) (plan_texts job)
  is_next g s stamped given count = rw count record {
    stamp = s;
    stamped = stamped;
    earlier = subst (λ (ts : List PlanTexts). AreAccepted (take at ts) (map opened so_far)) (sym given) accepted;
    next = ap (λ (ts : List PlanTexts). slice_get ts at) given
        ∙ slice_get_read texts (length texts) at (plan_texts job) refl low_text is_text;
  }

-- the numbers of their places, with one more plan
pub numbered_next : (so_far : List OpenPlan) (next : OpenPlan) → AreNumbered so_far → next.number ≡ length so_far
    → AreNumbered (so_far ++ next ∷ [])
numbered_next so_far next numbers number =
    let long : length (so_far ++ next ∷ []) ≡ length so_far + 1 = length-append so_far (next ∷ []) in
    map-append (λ (p : OpenPlan). p.number) so_far (next ∷ [])
    ∙ ap (λ ns. ns ++ next.number ∷ []) numbers
    ∙ ap (λ n. range_with_len 0 (length so_far) ++ n ∷ []) number
    ∙ sym (range_more (length so_far))
    ∙ ap (range_with_len 0) (sym long)

-- what is Ok, as an option
pub IfOk-some : {X E : Type 0} (P : X → Type 0) (r : Result X E) → IfOk r P → IfSome (result_ok r) P
IfOk-some P (Ok x) is = is
IfOk-some P (Err e) is = tt
