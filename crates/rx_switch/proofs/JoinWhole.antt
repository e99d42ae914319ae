-- The inputs of a join while they are read, and the replies that are picked.
use Rattle.std.proofs.Common.{◌≡◌, ◌≤◌, ◌==◌, true, false, ℕ, ◌+◌, ◌<◌, List, [], ◌∷◌, ◌++◌, Ok, Some, get_or, length, map, take, refl}
use Rattle.std.proofs.Common.{ap, sym, subst}
use Rattle.std.proofs.Common.{◌∙◌, inl, inr, arith}
use Rattle.std.specs.List.{AllZip, range_with_len, slice_get}
use Rattle.std.proofs.Math.Seq.{get_or-append_seam}
use Rattle.std.proofs.lemmas.Bool.{cases_lt, eqb-true}
use Rattle.std.proofs.lemmas.List.{get_or_append_left, length-append, length-map, length-take-le, map-append, take-map, take_more}
use Rattle.std.proofs.lemmas.Option.{get_or_from_slice_get, slice_get_within}
use Rattle.rx_batch.specs.declared.batch.Batch.{Batch}
use Rattle.rx_batch.specs.declared.detail.Detail.{Detail}
use Rattle.rx_batch.specs.Grammar.{IsFile}
use Rattle.rx_d0_request.specs.Doors.{plan_named}
use Rattle.rx_d0_values.specs.declared.reply.Reply.{Reply}
use Rattle.rx_fields.specs.declared.door.Door.{Door}
use Rattle.rx_fields.specs.declared.stamp.Stamp.{Stamp}
use Rattle.rx_ledger.specs.Ledger.{empty}
use Rattle.rx_ledger.specs.Plan.{Plan}
use Rattle.rx_response.specs.Response.{response_head}
use Rattle.rx_settle.specs.Settlement.{settlement_text}
use Rattle.rx_sheet.specs.SheetText.{sheet_of_text}
use Rattle.rx_show.specs.ResponseFile.{IsResponse}
use Rattle.rx_wave.specs.Jobs.{AreReplies}
use Rattle.rx_switch.specs.declared.dealt_records.DealtRecords.{DealtRecords}
use Rattle.rx_switch.specs.declared.join_job.PlanResponse.{PlanResponse as PlanResponseValue}
use Rattle.rx_switch.specs.JoinRefused.{HasDoor, HasReplies, HaveDoors, IsNextFile}
use Rattle.rx_switch.specs.JoinParts.{ArePicked, IsJoinOf, IsPickedFrom, JoinedReplies, join_inputs, nothing, response_texts}
use Rattle.rx_switch.specs.Joined.{HoldsReplies, IsResponseTo, JoinGiven, JoinStandsFor, PlanResponse}
use Rattle.rx_switch.specs.RouteParts.{IsDealt, places_at, rejected_reply}
use Rattle.rx_switch.specs.Routed.{OnePlan, Switched, are_apart, doors_of}
use Rattle.rx_schedule.specs.Footprints.{record_at}
use Rattle.rx_switch.proofs.JoinLists.{mapped_at, taken_at, zipped_by, zipped_long, zipped_to}
use Rattle.rx_switch.proofs.Joins.{are_held, are_replies, are_settled, are_strays, file_holds, joined_reply}

-- ---- the plans of the sheets

abbrev without_books : Plan → OnePlan
without_books plan = record { plan = plan; period = plan.figures.period; opening = empty }

pub plans_of : (ts : List PlanResponse) (ds : List Door) → AllZip HasDoor ts ds
    → (plans : List OnePlan) × AllZip (λ (t : PlanResponse) (p : OnePlan). sheet_of_text t.sheet ≡ Ok p.plan) ts plans
    × (doors_of plans ≡ ds)
plans_of [] [] each = ([], tt, refl)
plans_of [] (d ∷ ds) each = absurd each
plans_of (t ∷ ts) [] each = absurd each
plans_of (t ∷ ts) (d ∷ ds) each =
    let rest = plans_of ts ds each.1 in
    (without_books each.0.0 ∷ rest.0, (each.0.1, rest.1), λ i. each.0.2 i ∷ rest.2 i)

-- ---- one plan after another

abbrev IsPlanOf : PlanResponse → OnePlan → Type 0
IsPlanOf t p = sheet_of_text t.sheet ≡ Ok p.plan

module _ (g : JoinGiven) (plans : List OnePlan) (texts : List PlanResponseValue) (batch : Batch) (dealt : DealtRecords)
    (join : IsJoinOf g plans texts (doors_of plans) dealt.stamp batch)
    (is : IsDealt (join_inputs dealt.stamp plans batch) dealt) (i : ℕ) (d : PlanResponseValue) (low : i < length texts)
    (lists : List (List Reply)) (picked : ArePicked batch dealt (map response_texts (take i texts)) lists) where
  abbrev x : Switched
  x = join_inputs dealt.stamp plans batch

  abbrev before : List PlanResponse
  before = map response_texts (take i texts)

  long_before : length before ≡ i
  long_before =
      let long = length-map (take i texts) response_texts in
      let taken = length-take-le i texts (omega (arith, low)) in omega (arith, long, taken)

  long_plans : length (take i plans) ≡ i
  long_plans =
      let given = ap length join.texts_are in
      let mapped = length-map texts response_texts in
      let many = zipped_long IsPlanOf g.plans plans join.stands.sheets in
      length-take-le i plans (omega (arith, low, given, mapped, many))

  held_before : AllZip (HasReplies x) before (take i plans)
  held_before = zipped_by (HasReplies x) before (take i plans) (long_before ∙ sym long_plans) (λ n t p at to.
      let inside = slice_get_within before n t at in
      let here : get_or before n nothing ≡ t = get_or_from_slice_get before n t nothing at in
      let from = picked.each n inside in
      file_holds x dealt is n p (taken_at plans i n p to) join.stands.apart from.own t (get_or lists n [])
      (subst (λ (u : PlanResponse). IsResponseTo batch.head batch.details dealt.stamp u.response from.own) here from.file) from.each)

  -- the next file, and its plan
  pub next_file : IsNextFile g x i (response_texts (get_or texts i d)) × ((p : OnePlan) × (slice_get plans i ≡ Some p))
  next_file =
      let at : slice_get g.plans i ≡ Some (response_texts (get_or texts i d)) =
      ap (λ (ts : List PlanResponse). slice_get ts i) join.texts_are ∙ mapped_at response_texts texts i d low in
      let found = zipped_to IsPlanOf g.plans plans i (response_texts (get_or texts i d)) join.stands.sheets at in (
        record {
          accepted = join.stands;
          earlier = subst (λ (ts : List PlanResponse). AllZip (HasReplies x) ts (take i plans))
              (sym (ap (take i) join.texts_are ∙ take-map response_texts i texts)) held_before;
          next = at;
        },
        (found.0, found.1),
      )

module _ (batch : Batch) (dealt : DealtRecords) where
  picked_more : (ts : List PlanResponse) (lists : List (List Reply)) (i : ℕ) (t : PlanResponse) (list : List Reply)
      → length ts ≡ i → ArePicked batch dealt ts lists → IsPickedFrom batch dealt i t.response list
      → ArePicked batch dealt (ts ++ t ∷ []) (lists ++ list ∷ [])
  picked_more ts lists i t list count picked one =
      let long = picked.long in
      let more = length-append ts (t ∷ []) in
      let others = length-append lists (list ∷ []) in
      record {
        long = omega (arith, long, more, others);
        each = λ k low. elim (cases_lt k (length ts)) [
          | inl before ↦
              let text : get_or (ts ++ t ∷ []) k nothing ≡ get_or ts k nothing = get_or_append_left ts (t ∷ []) nothing k before in
              let its : get_or (lists ++ list ∷ []) k [] ≡ get_or lists k [] =
              get_or_append_left lists (list ∷ []) [] k (omega (arith, before, long)) in
              subst (λ (u : PlanResponse). IsPickedFrom batch dealt k u.response (get_or (lists ++ list ∷ []) k [])) (sym text)
              (subst (IsPickedFrom batch dealt k (get_or ts k nothing).response) (sym its) (picked.each k before))
          | inr after ↦
              let last : k ≡ length ts = omega (arith, after, low, more) in
              let at : k ≡ i = last ∙ count in
              let place : k ≡ length lists = omega (arith, last, long) in
              let text : get_or (ts ++ t ∷ []) k nothing ≡ t =
              ap (λ n. get_or (ts ++ t ∷ []) n nothing) last ∙ get_or-append_seam ts t [] nothing in
              let its : get_or (lists ++ list ∷ []) k [] ≡ list =
              ap (λ n. get_or (lists ++ list ∷ []) n []) place ∙ get_or-append_seam lists list [] [] in
              subst (λ (u : PlanResponse). IsPickedFrom batch dealt k u.response (get_or (lists ++ list ∷ []) k [])) (sym text)
              (subst (IsPickedFrom batch dealt k t.response) (sym its)
              (subst (λ n. IsPickedFrom batch dealt n t.response list) (sym at) one))
        ];
      }

  pub picked_next : (texts : List PlanResponseValue) (lists : List (List Reply)) (i : ℕ) (d : PlanResponseValue)
      (list : List Reply) → i < length texts
      → ArePicked batch dealt (map response_texts (take i texts)) lists
      → IsPickedFrom batch dealt i (response_texts (get_or texts i d)).response list
      → ArePicked batch dealt (map response_texts (take (i + 1) texts)) (lists ++ list ∷ [])
  picked_next texts lists i d list low picked one =
      let text : PlanResponseValue = get_or texts i d in
      let more : take (i + 1) texts ≡ take i texts ++ text ∷ [] = take_more texts i d low in
      let mapped : map response_texts (take (i + 1) texts) ≡ map response_texts (take i texts) ++ response_texts text ∷ [] =
      ap (map response_texts) more ∙ map-append response_texts (take i texts) (text ∷ []) in
      let long = length-map (take i texts) response_texts in
      let taken = length-take-le i texts (omega (arith, low)) in
      subst (λ (ts : List PlanResponse). ArePicked batch dealt ts (lists ++ list ∷ [])) (sym mapped)
      (picked_more (map response_texts (take i texts)) lists i (response_texts text) list (omega (arith, long, taken)) picked one)

-- ---- what is dealt out

module _ (g : JoinGiven) (plans : List OnePlan) (texts : List PlanResponseValue) (doors : List Door) (stamp : Stamp) (batch : Batch)
    (join : IsJoinOf g plans texts doors stamp batch) (dealt : DealtRecords) (is : IsDealt (join_inputs stamp plans batch) dealt)
  where
    pub at_its_stamp : IsJoinOf g plans texts (doors_of plans) dealt.stamp batch × IsDealt (join_inputs dealt.stamp plans batch) dealt
    at_its_stamp =
        subst (λ (s : Stamp). IsJoinOf g plans texts (doors_of plans) s batch × IsDealt (join_inputs s plans batch) dealt)
        (sym is.stamp)
        (subst (λ (ds : List Door). IsJoinOf g plans texts ds stamp batch) (sym join.doors_are) join, is)

    pub many : length (map response_texts texts) ≡ length plans
    many =
        ap length (sym join.texts_are)
        ∙ zipped_long (λ (t : PlanResponse) (p : OnePlan). sheet_of_text t.sheet ≡ Ok p.plan) g.plans plans join.stands.sheets

    pub as_many : length texts ≡ length plans
    as_many = let long = length-map texts response_texts in let all = many in omega (arith, long, all)

    module _ (lists : List (List Reply)) (strays : List Reply)
        (picked : ArePicked batch dealt (map response_texts texts) lists)
        (others : strays ≡ map (λ place. rejected_reply (record_at dealt.asked.items place)) (places_at dealt (length plans))) where
      abbrev pub reply : ℕ → Reply
      reply = joined_reply plans batch dealt (map response_texts texts) lists join.stands.apart at_its_stamp.1 picked many

      pub all_replied : AreReplies reply dealt.numbers.items (lists ++ strays ∷ [])
      all_replied = subst (λ (ns : List ℕ). AreReplies reply ns (lists ++ strays ∷ [])) (sym at_its_stamp.1.numbers)
          (are_replies plans batch dealt (map response_texts texts) lists join.stands.apart at_its_stamp.1 picked many strays others)

      pub all_joined : (replies : List Reply) (settlements : List (List ℕ))
          → replies ≡ map reply (range_with_len 1 (length dealt.numbers.items))
          → settlements ≡ map (λ (list : List Reply). settlement_text dealt.lot dealt.stamp list) lists
          → JoinedReplies g (join_inputs stamp plans batch) replies settlements
      all_joined replies settlements made settled =
          let numbers = ap length at_its_stamp.1.numbers
          ∙ length-map batch.details (λ (d : Detail). plan_named (doors_of plans) d.text) in
          subst (λ (s : Stamp). JoinedReplies g (join_inputs s plans batch) replies settlements) is.stamp record {
            reply = reply;
            joined = record {
              own = subst (λ (ts : List PlanResponse). AllZip (HoldsReplies (join_inputs dealt.stamp plans batch) reply) ts plans)
                  (sym join.texts_are)
                  (are_held plans batch dealt (map response_texts texts) lists join.stands.apart at_its_stamp.1 picked many);
              stray = are_strays plans batch dealt (map response_texts texts) lists join.stands.apart at_its_stamp.1 picked many;
            };
            replies_are = made ∙ ap (λ n. map reply (range_with_len 1 n)) numbers;
            settlements_are = settled
                ∙ are_settled plans batch dealt (map response_texts texts) lists join.stands.apart at_its_stamp.1 picked many;
          }

-- ---- a join has a plan

pub some_plan : (g : JoinGiven) (plans : List OnePlan) (texts : List PlanResponseValue) (doors : List Door) (stamp : Stamp)
    (batch : Batch) → IsJoinOf g plans texts doors stamp batch → 1 ≤ length g.plans
some_plan g plans texts doors stamp batch join =
    let low = slice_get_within g.plans 0 join.first.texts join.first.first in
    omega (arith, low)

pub map_again : {A B C : Type 0} (f : A → B) (h : B → C) (xs : List A) → map h (map f xs) ≡ map (λ x. h (f x)) xs
map_again f h [] = refl
map_again f h (x ∷ xs) = ap (λ ys. h (f x) ∷ ys) (map_again f h xs)

-- ---- what a join is of, once doors, batch and stamp are read

pub none_given : (texts : List PlanResponseValue) → (length texts == 0) ≡ true → map response_texts texts ≡ []
none_given [] none = refl
none_given (t ∷ texts) none =
    let empty = eqb-true (length (t ∷ texts)) 0 none in absurd (let never : ⊥ = omega (arith, empty) in never)

pub some_given : (texts : List PlanResponseValue) → (length texts == 0) ≡ false → 0 < length texts
some_given [] some = absurd (let bad : true ≡ false = some in cc)
some_given (t ∷ texts) some = omega arith

pub first_plan : (texts : List PlanResponseValue) (d : PlanResponseValue) → 0 < length texts
    → slice_get (map response_texts texts) 0 ≡ Some (response_texts (get_or texts 0 d))
first_plan texts d some = mapped_at response_texts texts 0 d some

module _ (g : JoinGiven) (doors : List Door) (batch : Batch) (have : HaveDoors g.plans doors)
    (file : IsFile g.batch batch.head batch.details) where
  abbrev pub plans : List OnePlan
  plans = (plans_of g.plans doors have.each).0

  pub stands_for : (stamp : Stamp) → JoinStandsFor g (join_inputs stamp plans batch)
  stands_for stamp =
      let found = plans_of g.plans doors have.each in
      record { sheets = found.1; apart = ap are_apart found.2 ∙ have.apart; batch = file }

  pub is_join : (texts : List PlanResponseValue) (d : PlanResponseValue) (stamp : Stamp) → 0 < length texts
      → g.plans ≡ map response_texts texts
      → ((own : List Detail) × IsResponse (get_or texts 0 d).response.now (response_head batch.head stamp) own)
      → IsJoinOf g plans texts doors stamp batch
  is_join texts d stamp some are first = record {
    stands = stands_for stamp;
    texts_are = are;
    doors_are = (plans_of g.plans doors have.each).2;
    first = record {
      texts = response_texts (get_or texts 0 d);
      first = ap (λ (ts : List PlanResponse). slice_get ts 0) are ∙ first_plan texts d some;
      own = first.0;
      file = first.1;
    };
  }

  -- the first plan's file is next
  pub is_first : (any : Stamp) (texts : PlanResponse) → slice_get g.plans 0 ≡ Some texts
      → IsNextFile g (join_inputs any plans batch) 0 texts
  is_first any texts at = record { accepted = stands_for any; earlier = tt; next = at }

pub renumbered : (batch : Batch) (dealt : DealtRecords) (m n : ℕ) (response : List ℕ) (picked : List Reply) → m ≡ n
    → IsPickedFrom batch dealt m response picked → IsPickedFrom batch dealt n response picked
renumbered batch dealt m n response picked same is = subst (λ k. IsPickedFrom batch dealt k response picked) same is
