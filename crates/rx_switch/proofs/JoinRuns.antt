-- A join of the response files of the plans' runs gives what the route gives.
use Rattle.std.proofs.Common.{◌≡◌, ◌≤◌, ℕ, zero, suc, ◌+◌, ◌<◌, ◌-◌, true, false, List, [], ◌∷◌, ◌++◌, Ok, Some, get_or, length}
use Rattle.std.proofs.Common.{map, refl, ap, sym, subst, ◌∙◌, inl, inr, arith}
use Rattle.std.specs.List.{AllByRecursion, AllZip, list_any, range_with_len, slice_get}
use Rattle.std.specs.Option.{option_map}
use Rattle.std.proofs.lemmas.Bool.{cases_Bool, cases_lt}
use Rattle.std.proofs.lemmas.List.{get_or-map, get_or_default, length-map}
use Rattle.std.proofs.lemmas.List.FromFn.{map-range_with_len_more}
use Rattle.std.proofs.lemmas.Option.{slice_get-map, slice_get_read}
use Rattle.rx_batch.specs.declared.batch.Batch.{Batch}
use Rattle.rx_batch.specs.declared.detail.Detail.{Detail}
use Rattle.rx_batch.specs.declared.head.Head.{Head}
use Rattle.rx_batch.specs.declared.head.Kind.TheVariants.{Response}
use Rattle.rx_batch.specs.Grammar.{IsFile}
use Rattle.rx_batch.proofs.Readings.{file_is_read}
use Rattle.rx_d0_reply.specs.Limits.{IsReply}
use Rattle.rx_d0_reply.specs.Reading.{reply_in}
use Rattle.rx_d0_reply.specs.Text.{reply_text}
use Rattle.rx_d0_reply.proofs.ReplyLaws.{reply_again}
use Rattle.rx_d0_request.specs.Doors.{door_in, names_plan, plan_at, stray_reply}
use Rattle.rx_d0_values.specs.declared.reply.Reply.{Reply}
use Rattle.rx_fields.specs.declared.door.Door.{Door}
use Rattle.rx_response.specs.Response.{response_details, response_head, response_text}
use Rattle.rx_schedule.specs.Shards.{places_of}
use Rattle.rx_settle.specs.Settlement.{settlement_text}
use Rattle.rx_sheet.specs.SheetText.{sheet_of_text}
use Rattle.rx_show.specs.ResponseFile.{IsResponse, as_batch}
use Rattle.rx_wave.proofs.Lists.{an_item}
use Rattle.rx_switch.specs.JoinLaw.{AreRunsOf, ReadsAsRun, join_of}
use Rattle.rx_switch.specs.JoinParts.{stamp_in}
use Rattle.rx_switch.specs.Joined.{AreJoined, HoldsReplies, IsJoined, JoinGiven, JoinTexts, PlanResponse, all_replies, join_texts}
use Rattle.rx_switch.specs.Output.{replies}
use Rattle.rx_switch.specs.Own.{no_reply}
use Rattle.rx_switch.specs.Routed.{IsRouted, OnePlan, PlanOutput, SwitchGiven, SwitchTexts, Switched, are_apart, door_of, doors_of, is_own}
use Rattle.rx_switch.specs.Routed.{no_detail, plan_output, request_at, routed_replies, routed_reply, run_of, switch_texts}
use Rattle.rx_switch.proofs.Alone.{map_places}
use Rattle.rx_switch.proofs.JoinLists.{zipped_at, zipped_to}
use Rattle.rx_switch.proofs.OneOutput.{batch_read, good_same}
use Rattle.rx_switch.proofs.Replied.{replied}
use Rattle.rx_switch.proofs.Routing.{number_named, reply_unnamed, routed_is}

-- ---- texts are read as one thing

same_reply : (r s : Reply) → IsReply r → IsReply s → reply_text r ≡ reply_text s → r ≡ s
same_reply r s fr fs e =
    let both : Some r ≡ Some s = sym (reply_again r fr) ∙ ap reply_in e ∙ reply_again s fs in cc

pub same_file : (bytes : List ℕ) (h k : Head) (ds es : List Detail) → IsResponse bytes h ds → IsResponse bytes k es
    → (h ≡ k) × (ds ≡ es)
same_file bytes h k ds es is was =
    let batches : batch_read is.asked ds ≡ batch_read was.asked es =
    good_same (batch_read is.asked ds) (batch_read was.asked es)
    (sym (file_is_read (as_batch bytes) is.asked ds is.file) ∙ file_is_read (as_batch bytes) was.asked es was.file) in (
      is.head_is ∙ ap (λ (b : Batch). record b.head { kind = Response }) batches ∙ sym was.head_is,
      ap (λ (b : Batch). b.details) batches,
    )

-- ---- lists

pub each_within : (rs : List Reply) (k : ℕ) (d : Reply) → k < length rs → AllByRecursion IsReply rs → IsReply (get_or rs k d)
each_within [] k d low all = absurd (omega arith)
each_within (r ∷ rs) zero d low all = all.0
each_within (r ∷ rs) (suc k) d low all = each_within rs k d (omega arith) all.1

pub text_there : (details : List Detail) (rs : List Reply) (k : ℕ) (d : Reply) → k < length details → length rs ≡ length details
    → (get_or (response_details details rs) k no_detail).text ≡ reply_text (get_or rs k d)
text_there [] rs k d low long = absurd (omega arith)
text_there (e ∷ details) [] k d low long = absurd (omega (arith, long))
text_there (e ∷ details) (s ∷ rs) zero d low long = refl
text_there (e ∷ details) (s ∷ rs) (suc k) d low long = text_there details rs k d (omega arith) (omega (arith, long))

same_on_range : {A : Type 0} (f h : ℕ → A) (n : ℕ) → ((i : ℕ) → 1 ≤ i → i ≤ n → f i ≡ h i)
    → map f (range_with_len 1 n) ≡ map h (range_with_len 1 n)
same_on_range f h zero same = refl
same_on_range f h (suc n) same =
    let e : 1 + n ≡ suc n = omega arith in
    let m : n + 1 ≡ suc n = omega arith in
    ap (λ k. map f (range_with_len 1 k)) (sym m)
    ∙ map-range_with_len_more f 1 n (suc n) e
    ∙ ap (λ xs. xs ++ f (suc n) ∷ []) (same_on_range f h n (λ i one to. same i one (omega (arith, to))))
    ∙ ap (λ y. map h (range_with_len 1 n) ++ y ∷ []) (same (suc n) (omega arith) (omega arith))
    ∙ sym (map-range_with_len_more h 1 n (suc n) e)
    ∙ ap (λ k. map h (range_with_len 1 k)) m

map_twice : {A B C : Type 0} (f : A → B) (h : B → C) (xs : List A) → map h (map f xs) ≡ map (λ x. h (f x)) xs
map_twice f h [] = refl
map_twice f h (x ∷ xs) = ap (λ ys. h (f x) ∷ ys) (map_twice f h xs)

named_none : (doors : List Door) (asked : Door) → length doors ≤ plan_at asked doors → list_any (names_plan asked) doors ≡ false
named_none [] asked high = refl
named_none (d ∷ doors) asked high = elim (cases_Bool (names_plan asked d)) [
  | inl named ↦ absurd (let bad = rw named at high in omega (arith, bad))
  | inr other ↦ rw other (named_none doors asked (let more = rw other at high in omega (arith, more)))
]

-- the doors of the sheets
pub same_doors : (x : Switched) (ts : List PlanResponse) (ps qs : List OnePlan) → AllZip (ReadsAsRun x) ts ps
    → AllZip (λ (t : PlanResponse) (p : OnePlan). sheet_of_text t.sheet ≡ Ok p.plan) ts qs → doors_of qs ≡ doors_of ps
same_doors x [] [] [] is was = refl
same_doors x [] [] (q ∷ qs) is was = absurd was
same_doors x [] (p ∷ ps) qs is was = absurd is
same_doors x (t ∷ ts) [] qs is was = absurd is
same_doors x (t ∷ ts) (p ∷ ps) [] is was = absurd was
same_doors x (t ∷ ts) (p ∷ ps) (q ∷ qs) is was =
    let plans : q.plan ≡ p.plan = good_same q.plan p.plan (sym was.0 ∙ is.0.sheet) in
    let rest = same_doors x ts ps qs is.1 was.1 in
    λ i. (plans i).figures.door ∷ rest i

-- ---- a join of the runs

abbrev with_plans : Switched → List OnePlan → Switched
with_plans x qs = record { stamp = x.stamp; plans = qs; head = x.head; details = x.details }

-- the switch's inputs, with the plans of the join
module _ (x : Switched) (j : JoinGiven) (runs : AllZip (ReadsAsRun x) j.plans x.plans)
    (apart : are_apart (doors_of x.plans) ≡ true) (qs : List OnePlan) (doors : doors_of qs ≡ doors_of x.plans) (reply : ℕ → Reply)
  where
    abbrev z : Switched
    z = with_plans x qs

    abbrev count : ℕ
    count = length x.details

    module _ (joined : AreJoined j z reply) where
      -- of a record that names a plan
      named_same : (n : ℕ) (p : OnePlan) → n < length x.plans → get_or x.plans n p ≡ p → (place : ℕ) → 1 ≤ place → place ≤ count
          → names_plan (door_in (request_at x place)) (door_of p) ≡ true → reply place ≡ routed_reply x place
      named_same n p low there place one to named =
          let at_p : slice_get x.plans n ≡ Some p = slice_get_read x.plans (length x.plans) n p refl low (sym there) in
          let read = zipped_at (ReadsAsRun x) j.plans x.plans n p runs at_p in
          let holds = zipped_to (HoldsReplies z reply) j.plans qs n read.0 joined.own read.1 in
          let rs = replies (run_of x p) in
          let long : length rs ≡ count = replied x.head.lot p.plan 1 (door_of p) x.details p.opening in
          let low_place : place - 1 < count = omega (arith, one, to) in
          let same_door : door_of holds.0 ≡ door_of p =
          let both : Some (door_of holds.0) ≡ Some (door_of p) =
          sym (slice_get-map door_of qs n ∙ ap (option_map door_of) holds.1) ∙ ap (λ (ds : List Door). slice_get ds n) doors
          ∙ slice_get-map door_of x.plans n ∙ ap (option_map door_of) at_p in cc in
          let own = ap (names_plan (door_in (request_at x place))) same_door ∙ named in
          let held = (holds.2.each place one to own).0 in
          let details : holds.2.own ≡ response_details x.details rs =
          (same_file read.0.response (response_head x.head x.stamp) (response_head x.head x.stamp) holds.2.own
          (response_details x.details rs) holds.2.file.file read.2.file).1 in
          let texts : reply_text (reply place) ≡ reply_text (get_or rs (place - 1) no_reply) =
          sym held.1 ∙ ap (λ (ds : List Detail). (get_or ds (place - 1) no_detail).text) details
          ∙ text_there x.details rs (place - 1) no_reply low_place long in
          same_reply (reply place) (get_or rs (place - 1) no_reply) held.0
          (each_within rs (place - 1) no_reply (omega (arith, low_place, long)) read.2.within) texts
          ∙ sym (routed_is x apart n p low there place one to named)

      replies_same : (place : ℕ) → 1 ≤ place → place ≤ count → reply place ≡ routed_reply x place
      replies_same place one to =
          let asked = door_in (request_at x place) in
          let n = plan_at asked (doors_of x.plans) in
          let long = length-map x.plans door_of in
          elim (cases_lt n (length x.plans)) [
            | inl low ↦
                let p = get_or x.plans n (an_item x.plans n low) in
                let there : get_or x.plans n p ≡ p = get_or_default x.plans n p (an_item x.plans n low) low in
                let low_door : n < length (doors_of x.plans) = omega (arith, low, long) in
                let door_there : get_or (doors_of x.plans) n (door_of p) ≡ door_of p =
                get_or-map door_of x.plans n p (door_of p) low ∙ ap door_of there in
                named_same n p low there place one to
                (number_named (doors_of x.plans) n (door_of p) asked low_door door_there refl)
            | inr high ↦
                let none = named_none (doors_of x.plans) asked (omega (arith, high, long)) in
                joined.stray place one to (ap (list_any (names_plan asked)) doors ∙ none)
                ∙ ap (λ (ds : List Door). stray_reply ds (request_at x place)) doors
                ∙ sym (reply_unnamed x x.plans place none)
          ]

      abbrev own_settlement : (ℕ → Reply) → Door → List ℕ
      own_settlement r door = settlement_text x.head.lot x.stamp (map r (places_of (is_own x door) count))

      settled_same : (door : Door) → own_settlement reply door ≡ own_settlement (routed_reply x) door
      settled_same door = ap (settlement_text x.head.lot x.stamp)
          (map_places (is_own x door) reply (routed_reply x) count (λ i one to its. replies_same i one to))

      pub texts_same : join_texts z reply ≡ join_of (switch_texts x)
      texts_same =
          let all : all_replies z reply ≡ routed_replies x = same_on_range reply (routed_reply x) count replies_same in
          let own : map (λ (p : OnePlan). own_settlement reply (door_of p)) qs
          ≡ map (λ (o : PlanOutput). o.settlement) (map (plan_output x) x.plans) =
          sym (map_twice door_of (own_settlement reply) qs) ∙ ap (map (own_settlement reply)) doors
          ∙ (λ i. map (λ door. settled_same door i) (doors_of x.plans))
          ∙ map_twice door_of (own_settlement (routed_reply x)) x.plans
          ∙ sym (map_twice (plan_output x) (λ (o : PlanOutput). o.settlement) x.plans) in
          λ i. record {
            response = response_text x.head x.stamp x.details (all i);
            settlement = settlement_text x.head.lot x.stamp (all i);
            settlements = own i;
          }

pub joined_same : (g : SwitchGiven) (t : SwitchTexts) (j : JoinGiven) (u : JoinTexts) (is : IsRouted g t)
    → AreRunsOf g.batch is.inputs j → IsJoined j u → u ≡ join_of t
joined_same g t j u is runs w =
    let x = is.inputs in
    let y = w.inputs in
    let batches : batch_read x.head x.details ≡ batch_read y.head y.details =
    good_same (batch_read x.head x.details) (batch_read y.head y.details)
    (sym (file_is_read g.batch x.head x.details is.accepted.batch)
    ∙ file_is_read g.batch y.head y.details (subst (λ bs. IsFile bs y.head y.details) runs.same w.accepted.batch)) in
    let first : PlanResponse = get_or j.plans 0 (an_item j.plans 0 w.some) in
    let there : get_or j.plans 0 first ≡ first = get_or_default j.plans 0 first (an_item j.plans 0 w.some) w.some in
    let at = slice_get_read j.plans (length j.plans) 0 first refl w.some (sym there) in
    let read = zipped_to (ReadsAsRun x) j.plans x.plans 0 first runs.each at in
    let holds = zipped_to (HoldsReplies y w.reply) j.plans y.plans 0 first w.joined.own at in
    let heads : response_head x.head x.stamp ≡ response_head y.head y.stamp =
    (same_file first.response (response_head x.head x.stamp) (response_head y.head y.stamp) _ holds.2.own
    read.2.file holds.2.file.file).0 in
    let stamps : x.stamp ≡ y.stamp = ap stamp_in heads in
    let doors = same_doors x j.plans x.plans y.plans runs.each w.accepted.sheets in
    let inputs : y ≡ with_plans x y.plans =
    λ i. record {
      stamp = (sym stamps) i;
      plans = y.plans;
      head = (sym batches i).head;
      details = (sym batches i).details;
    } in
    w.texts_are ∙ ap (λ (v : Switched). join_texts v w.reply) inputs
    ∙ texts_same x j runs.each is.accepted.plans.apart y.plans doors w.reply
    (subst (λ (v : Switched). AreJoined j v w.reply) inputs w.joined)
    ∙ ap join_of (sym is.texts_are)
