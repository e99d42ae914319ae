-- Plans that are read side by side.
use Rattle.std.proofs.Common.{◌≡◌, ℕ, ◌+◌, ◌<◌, true, false, List, [], ◌∷◌, ◌++◌, get_or, length, map, take, ap, sym, ◌∙◌}
use Rattle.std.specs.List.{AllZip, list_any}
use Rattle.std.proofs.lemmas.List.{map-append, take_more}
use Rattle.rx_d0_request.specs.Doors.{names_plan}
use Rattle.rx_switch.specs.declared.open_plans.OpenPlan.{OpenPlan}
use Rattle.rx_switch.specs.RouteParts.{opened}
use Rattle.rx_switch.specs.Routed.{are_apart, door_of, doors_of}
use Rattle.rx_switch.proofs.Opening.{apart-more}

-- what holds of two lists place by place holds of what is made of them
pub each_made : {A B X Y : Type 0} (R : A → B → Type 0) (f : X → A) (h : Y → B) (xs : List X) (ys : List Y)
    → AllZip (λ x y. R (f x) (h y)) xs ys → AllZip R (map f xs) (map h ys)
each_made R f h [] [] all = tt
each_made R f h [] (y ∷ ys) all = absurd all
each_made R f h (x ∷ xs) [] all = absurd all
each_made R f h (x ∷ xs) (y ∷ ys) all = (all.0, each_made R f h xs ys all.1)

-- one plan more, whose door none of the earlier ones has
pub apart_next : (plans : List OpenPlan) (at : ℕ) (plan : OpenPlan) → at < length plans → plan ≡ get_or plans at plan
    → are_apart (doors_of (map opened (take at plans))) ≡ true
    → list_any (λ other. names_plan other (door_of (opened plan))) (doors_of (map opened (take at plans))) ≡ false
    → are_apart (doors_of (map opened (take (at + 1) plans))) ≡ true
apart_next plans at plan low is apart none =
    let more : take (at + 1) plans ≡ take at plans ++ plan ∷ [] =
    take_more plans at plan low ∙ ap (λ (p : OpenPlan). take at plans ++ p ∷ []) (sym is) in
    let doors : doors_of (map opened (take at plans ++ plan ∷ [])) ≡ doors_of (map opened (take at plans)) ++ door_of (opened plan) ∷ [] =
    ap doors_of (map-append opened (take at plans) (plan ∷ []))
    ∙ map-append door_of (map opened (take at plans)) (opened plan ∷ []) in
    ap (λ ps. are_apart (doors_of (map opened ps))) more ∙ ap are_apart doors
    ∙ apart-more (doors_of (map opened (take at plans))) (door_of (opened plan)) apart none
