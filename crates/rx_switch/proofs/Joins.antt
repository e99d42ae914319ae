-- What the response files of plans hold at the places of their records is joined.
use Rattle.std.proofs.Common.{◌≡◌, ◌≤◌, ℕ, suc, ◌+◌, ◌<◌, ◌-◌, Bool, true, false, List, [], ◌∷◌, ◌++◌, Result, Option, Ok, Err}
use Rattle.std.proofs.Common.{None, Some, get_or, length, map, take, refl, ap, sym, subst, ◌∙◌, inl, inr, arith}
use Rattle.std.specs.Prelude.{All, if◌then◌else◌, nat_lt}
use Rattle.std.specs.List.{AllZip, list_any, slice_get}
use Rattle.std.proofs.Math.Seq.{get_or-append_seam}
use Rattle.std.proofs.lemmas.Bool.{cases_Bool, cases_lt, eqb-true, le-ltb, lt-ltb}
use Rattle.std.proofs.lemmas.List.{get_or-map, get_or-take, get_or_append_left, length-append, length-map, length-take-le}
use Rattle.std.proofs.lemmas.List.Elements.{All-nil, All-cons, All-contains}
use Rattle.std.proofs.lemmas.Option.{get_or_from_slice_get, slice_get-get_or, slice_get_within}
use Rattle.rx_batch.specs.declared.batch.Batch.{Batch}
use Rattle.rx_batch.specs.declared.detail.Detail.{Detail}
use Rattle.rx_batch.specs.declared.fault.BatchFault.{BatchFault}
use Rattle.rx_batch.specs.declared.head.Head.{Head}
use Rattle.rx_batch.proofs.Readings.{batch_ok, file_is_read}
use Rattle.rx_d0_reply.specs.Reading.{reply_in}
use Rattle.rx_d0_reply.proofs.ReplyLaws.{reply_again}
use Rattle.rx_d0_request.specs.Doors.{door_in, names_plan, plan_at, plan_named, routed, stray_reply}
use Rattle.rx_d0_values.specs.declared.reply.Reply.{Reply}
use Rattle.rx_d0_values.specs.declared.transmission.Transmission.{Transmission}
use Rattle.rx_fields.specs.Numbered.{LotParts}
use Rattle.rx_fields.specs.declared.door.Door.{Door}
use Rattle.rx_response.specs.Response.{response_head}
use Rattle.rx_schedule.specs.Footprints.{no_record, record_at}
use Rattle.rx_schedule.specs.Shards.{is_of, places_of}
use Rattle.rx_schedule.specs.Waves.{number_in}
use Rattle.rx_schedule.proofs.Chosen.{places_chosen, places_have}
use Rattle.rx_settle.specs.Settlement.{settlement_text}
use Rattle.rx_show.specs.Found.{IsTextOf}
use Rattle.rx_show.specs.ResponseFile.{IsResponse, as_batch, response_of, with_kind}
use Rattle.rx_text.specs.Results.{◌>>=◌}
use Rattle.rx_wave.specs.Jobs.{AreReplies}
use Rattle.rx_switch.specs.declared.dealt_records.DealtRecords.{DealtRecords}
use Rattle.rx_switch.specs.declared.join_fault.JoinFault.{JoinFault}
use Rattle.rx_switch.specs.JoinParts.{ArePicked, IsNoReply, IsPicked, join_inputs, nothing}
use Rattle.rx_switch.specs.JoinRefused.{HasReplies, HasReply, IsNextFile, IsNotJoined}
use Rattle.rx_switch.specs.JoinRefused.IsNotJoined.{other_reply as by_reply, memory as by_memory}
use Rattle.rx_switch.specs.Joined.{HoldsReplies, IsReplyAt, IsResponseTo, JoinGiven, PlanResponse, join_texts}
use Rattle.rx_switch.specs.MayReply.{MayReply}
use Rattle.rx_switch.specs.Own.{no_reply, own_places}
use Rattle.rx_switch.specs.RouteParts.{IsDealt, numbers_of, places_at, rejected_reply}
use Rattle.rx_switch.specs.Routed.{OnePlan, Switched, are_apart, door_of, doors_of, is_own, no_detail, request_at}
use Rattle.rx_switch.proofs.Alone.{map_places, places_alike}
use Rattle.rx_switch.proofs.Finished.{strays_are}
use Rattle.rx_switch.proofs.JoinLists.{zipped_by}
use Rattle.rx_switch.proofs.Mapped.{zipped}
use Rattle.rx_switch.proofs.Routing.{mine_is_own, number_there, or_parts}

-- ---- what is read

abbrev held_by : Option Reply → Reply
held_by None = no_reply
held_by (Some r) = r

abbrev pub held : List Detail → ℕ → Reply
held own place = held_by (reply_in (get_or own (place - 1) no_detail).text)

abbrev details_by : Result Batch BatchFault → List Detail
details_by (Ok b) = b.details
details_by (Err f) = []

abbrev pub details_in : List ℕ → List Detail
details_in bytes = details_by (response_of bytes)

abbrev typed : Result Batch BatchFault → Result Batch BatchFault
typed read = read >>= λ b. batch_ok (with_kind b)

pub details_are : (bytes : List ℕ) (head : Head) (own : List Detail) → IsResponse bytes head own → own ≡ details_in bytes
details_are bytes head own is =
    sym (ap (λ r. details_by (typed r)) (file_is_read (as_batch bytes) is.asked own is.file))

module _ (lot : LotParts) (asked : List Transmission) (own : List Detail) where
  picked_held : (place : ℕ) (r : Reply) → IsPicked lot asked own place r → r ≡ held own place
  picked_held place r is =
      sym (ap (λ text. held_by (reply_in text)) is.text.1 ∙ ap held_by (reply_again r is.text.0))

  abbrev IsHeld : ℕ → Type 0
  IsHeld place = IsPicked lot asked own place (held own place)

  pub all_held : (places : List ℕ) (replies : List Reply) → AllZip (IsPicked lot asked own) places replies
      → (replies ≡ map (held own) places) × All IsHeld places
  all_held [] [] each = (refl, All-nil IsHeld)
  all_held [] (r ∷ replies) each = absurd each
  all_held (place ∷ places) [] each = absurd each
  all_held (place ∷ places) (r ∷ replies) each =
      let first = picked_held place r each.0 in
      let rest = all_held places replies each.1 in (
        (λ i. first i ∷ rest.0 i),
        All-cons IsHeld place places (subst (IsPicked lot asked own place) first each.0) rest.1,
      )

-- ---- a door that is none of several

unnamed_number : (doors : List Door) (asked : Door) → list_any (names_plan asked) doors ≡ false → plan_at asked doors ≡ length doors
unnamed_number [] asked none = refl
unnamed_number (d ∷ doors) asked none =
    let parts = or_parts (names_plan asked d) (list_any (names_plan asked) doors) none in
    rw parts.0 (ap suc (unnamed_number doors asked parts.1))

plan_at-within : (asked : Door) (doors : List Door) → plan_at asked doors ≤ length doors
plan_at-within asked [] = omega arith
plan_at-within asked (d ∷ doors) = elim (cases_Bool (names_plan asked d)) [
  | inl named ↦ rw named (omega arith)
  | inr other ↦ let rest = plan_at-within asked doors in rw other (omega (arith, rest))
]

-- ---- the records of one number

module _ (x : Switched) where
  abbrev doors : List Door
  doors = doors_of x.plans

  abbrev count : ℕ
  count = length x.details

  abbrev mine : ℕ → ℕ → Bool
  mine k = is_of (number_in (numbers_of x)) k

  abbrev may_at : ℕ → Reply → Type 0
  may_at place r = MayReply x.head.lot place (routed doors (request_at x place)) r

  module _ (dealt : DealtRecords) (is : IsDealt x dealt) where
    -- the request at a place, as the plans read it
    asked_there : (place : ℕ) → 1 ≤ place → place ≤ count
        → record_at dealt.asked.items place ≡ routed doors (request_at x place)
    asked_there place one to =
        ap (λ ts. record_at ts place) is.asked
        ∙ get_or-map (λ (d : Detail). routed doors d.text) x.details (place - 1) no_detail no_record (omega (arith, one, to))

    pub may_there : (own : List Detail) (place : ℕ) (r : Reply) → 1 ≤ place → place ≤ count
        → IsPicked dealt.lot dealt.asked.items own place r → IsReplyAt x own place r
    may_there own place r one to picked = (
      picked.text,
      subst (λ (t : Transmission). MayReply x.head.lot place t r) (asked_there place one to)
          (subst (λ (lot : LotParts). MayReply lot place (record_at dealt.asked.items place) r) is.lot picked.may),
    )

    may_back : (own : List Detail) (place : ℕ) (r : Reply) → 1 ≤ place → place ≤ count
        → IsTextOf (get_or own (place - 1) no_detail).text r → may_at place r
        → IsPicked dealt.lot dealt.asked.items own place r
    may_back own place r one to text may = record {
      text = text;
      may = subst (λ (lot : LotParts). MayReply lot place (record_at dealt.asked.items place) r) (sym is.lot)
          (subst (λ (t : Transmission). MayReply x.head.lot place t r) (sym (asked_there place one to)) may);
    }

    -- the records of a number, some of which have replies
    module _ (k : ℕ) (low : k < suc (length x.plans)) (own : List Detail) where
      held_there : (replies : List Reply) → AllZip (IsPicked dealt.lot dealt.asked.items own) (places_at dealt k) replies
          → (place : ℕ) → 1 ≤ place → place ≤ count → mine k place ≡ true → IsReplyAt x own place (held own place)
      held_there replies each place one to its =
          let both = all_held dealt.lot dealt.asked.items own (places_at dealt k) replies each in
          let among : All (IsHeld dealt.lot dealt.asked.items own) (places_of (mine k) count) =
          subst (All (IsHeld dealt.lot dealt.asked.items own)) (is.places k low) both.1 in
          may_there own place (held own place) one to
          (All-contains (IsHeld dealt.lot dealt.asked.items own) (places_of (mine k) count) place among
          (places_have (mine k) count place one to its))

      -- a place among theirs
      inside_there : (all : List ℕ) → all ≡ places_at dealt k → (i d : ℕ) → i < length all
          → (1 ≤ get_or all i d) × (get_or all i d ≤ count)
      inside_there all same i d below =
          let places : all ≡ places_of (mine k) count = same ∙ is.places k low in
          let e = ap (λ (ps : List ℕ). get_or ps i d) places in
          let chosen = places_chosen (mine k) count i d (let long = ap length places in omega (arith, below, long)) in
          (let from = chosen.from_one in omega (arith, from, e), let last = chosen.to in omega (arith, last, e))

      replies_before : (all : List ℕ) → all ≡ places_at dealt k → (i : ℕ) → i < length all → (replies : List Reply)
          → AllZip (IsPicked dealt.lot dealt.asked.items own) (take i all) replies → All (HasReply x own) (take i all)
      replies_before all same i below replies each = λ j d low.
          let long = length-take-le i all (omega (arith, below)) in
          let earlier : j < i = omega (arith, low, long) in
          let at : get_or (take i all) j d ≡ get_or all j d = get_or-take i all j d earlier in
          let place : ℕ = get_or (take i all) j d in
          let there = inside_there all same j d (omega (arith, earlier, below)) in
          let one : 1 ≤ place = let from = there.0 in omega (arith, from, at) in
          let to : place ≤ count = let last = there.1 in omega (arith, last, at) in
          let both = all_held dealt.lot dealt.asked.items own (take i all) replies each in
          (held own place, may_there own place (held own place) one to (both.1 j d low))

    module _ (number : ℕ) (p : OnePlan) (at : slice_get x.plans number ≡ Some p) (apart : are_apart (doors_of x.plans) ≡ true)
        (own : List Detail) where
      inside : number < length x.plans
      inside = slice_get_within x.plans number p at

      low : number < suc (length x.plans)
      low = let below = inside in omega (arith, below)

      mine_are_own : (place : ℕ) → 1 ≤ place → place ≤ count → mine number place ≡ is_own x (door_of p) place
      mine_are_own = mine_is_own x apart number p inside (get_or_from_slice_get x.plans number p p at)

      -- the plan's records
      own_at : places_at dealt number ≡ own_places x (door_of p)
      own_at = is.places number low ∙ places_alike (mine number) (is_own x (door_of p)) count mine_are_own

      -- the plan's response file holds replies to them
      pub file_holds : (t : PlanResponse) (replies : List Reply) → IsResponseTo x.head x.details x.stamp t.response own
          → AllZip (IsPicked dealt.lot dealt.asked.items own) (places_at dealt number) replies → HasReplies x t p
      file_holds t replies file each = (
        held own,
        record {
          own = own;
          file = file;
          each = λ place one to its. held_there number low own replies each place one to (mine_are_own place one to ∙ its);
        },
      )

      -- or none to one of them
      module _ (g : JoinGiven) (t : PlanResponse) (next : IsNextFile g x number t)
          (file : IsResponseTo x.head x.details x.stamp t.response own) where
        pub none_refused : (all : List ℕ) → all ≡ places_at dealt number → (i d : ℕ) → i < length all → (replies : List Reply)
            → AllZip (IsPicked dealt.lot dealt.asked.items own) (take i all) replies
            → (f : JoinFault) → IsNoReply number dealt.lot dealt.asked.items own (get_or all i d) f → IsNotJoined g f
        none_refused all same i d below replies each f (inl lack) = rw lack by_memory
        none_refused all same i d below replies each f (inr lacking) =
            let place : ℕ = get_or all i d in
            let places : all ≡ own_places x (door_of p) = same ∙ own_at in
            let there = inside_there number low own all same i d below in
            rw lacking.0 (by_reply number place x t p own next at file record {
              number = i;
              is = ap (λ (ps : List ℕ). slice_get ps i) (sym places) ∙ slice_get-get_or all i d below;
              before = subst (λ (ps : List ℕ). All (HasReply x own) (take i ps)) places
                  (replies_before number low own all same i below replies each);
              none = λ has. lacking.1 has.0 (may_back own place has.0 there.0 there.1 has.1.0 has.1.1);
            })

-- ---- all records

-- the plans' lists are picked, and after them come the replies to the strays
module _ (plans : List OnePlan) (batch : Batch) (dealt : DealtRecords) (texts : List PlanResponse) (lists : List (List Reply))
    (apart : are_apart (doors_of plans) ≡ true) (is : IsDealt (join_inputs dealt.stamp plans batch) dealt)
    (picked : ArePicked batch dealt texts lists) (many : length texts ≡ length plans) where
  abbrev x : Switched
  x = join_inputs dealt.stamp plans batch

  abbrev numbers : List ℕ
  numbers = numbers_of x

  -- the reply to a record of a number
  abbrev reply_of : ℕ → ℕ → Reply
  reply_of n place =
      if nat_lt n (length texts) then held (details_in (get_or texts n nothing).response) place
      else stray_reply (doors_of plans) (request_at x place)

  abbrev pub joined_reply : ℕ → Reply
  joined_reply place = reply_of (number_in numbers place) place

  own_reply : (n place : ℕ) → n < length texts → number_in numbers place ≡ n
      → joined_reply place ≡ held (details_in (get_or texts n nothing).response) place
  own_reply n place low number =
      let is_low : nat_lt n (length texts) ≡ true = lt-ltb n (length texts) low in
      ap (λ k. reply_of k place) number ∙ rw is_low refl

  other_reply : (n place : ℕ) → n ≡ length texts → number_in numbers place ≡ n
      → joined_reply place ≡ stray_reply (doors_of plans) (request_at x place)
  other_reply n place last number =
      let is_high : nat_lt n (length texts) ≡ false = le-ltb n (length texts) (omega (arith, last)) in
      ap (λ k. reply_of k place) number ∙ rw is_high refl

  of_number : (n place : ℕ) → mine x n place ≡ true → number_in numbers place ≡ n
  of_number n place its = eqb-true (number_in numbers place) n its

  module _ (n : ℕ) (low : n < length texts) where
    abbrev own : List Detail
    own = (picked.each n low).own

    own_is : (place : ℕ) → mine x n place ≡ true → held own place ≡ joined_reply place
    own_is place its =
        ap (λ (ds : List Detail). held ds place)
        (details_are (get_or texts n nothing).response (response_head batch.head dealt.stamp) own (picked.each n low).file.file)
        ∙ sym (own_reply n place low (of_number n place its))

    its_places : places_at dealt n ≡ places_of (mine x n) (count x)
    its_places = is.places n (omega (arith, low, many))

    own_list : get_or lists n [] ≡ map joined_reply (places_of (mine x n) (count x))
    own_list =
        (all_held dealt.lot dealt.asked.items own (places_at dealt n) (get_or lists n []) (picked.each n low).each).0
        ∙ ap (map (held own)) its_places
        ∙ map_places (mine x n) (held own) joined_reply (count x) (λ i one to its. own_is i its)

    own_may : (place : ℕ) → 1 ≤ place → place ≤ count x → mine x n place ≡ true → IsReplyAt x own place (joined_reply place)
    own_may place one to its =
        subst (λ (r : Reply). IsReplyAt x own place r) (own_is place its)
        (held_there x dealt is n (omega (arith, low, many)) own (get_or lists n []) (picked.each n low).each place one to its)

  -- the files hold the replies
  pub are_held : AllZip (HoldsReplies x joined_reply) texts plans
  are_held = zipped_by (HoldsReplies x joined_reply) texts plans many (λ n t p at to.
      let low = slice_get_within texts n t at in
      let here : get_or texts n nothing ≡ t = get_or_from_slice_get texts n t nothing at in
      let inside = slice_get_within plans n p to in
      let there : get_or plans n p ≡ p = get_or_from_slice_get plans n p p to in
      record {
        own = own n low;
        file = subst (λ (u : PlanResponse). IsResponseTo batch.head batch.details dealt.stamp u.response (own n low)) here
            (picked.each n low).file;
        each = λ place one last its.
            own_may n low place one last (mine_is_own x apart n p inside there place one last ∙ its);
      })

  pub are_strays : (place : ℕ) → 1 ≤ place → place ≤ length batch.details
      → list_any (names_plan (door_in (request_at x place))) (doors_of plans) ≡ false
      → joined_reply place ≡ stray_reply (doors_of plans) (request_at x place)
  are_strays place one to none =
      let number : number_in numbers place ≡ length (doors_of plans) =
      number_there x place one to ∙ unnamed_number (doors_of plans) (door_in (request_at x place)) none in
      let long = length-map plans door_of in
      other_reply (length (doors_of plans)) place (omega (arith, long, many)) number

  -- the settlements of the plans
  pub are_settled : map (λ list. settlement_text dealt.lot dealt.stamp list) lists ≡ (join_texts x joined_reply).settlements
  are_settled = zipped (λ (list : List Reply). settlement_text dealt.lot dealt.stamp list)
      (λ (p : OnePlan). settlement_text batch.head.lot dealt.stamp (map joined_reply (own_places x (door_of p)))) plans lists
      (zipped_by (λ (p : OnePlan) (list : List Reply). settlement_text dealt.lot dealt.stamp list
      ≡ settlement_text batch.head.lot dealt.stamp (map joined_reply (own_places x (door_of p)))) plans lists
      (let long = picked.long in omega (arith, long, many)) (λ n p list to at.
      let long = picked.long in
      let inside = slice_get_within plans n p to in
      let low : n < length texts = omega (arith, inside, many) in
      let there : get_or plans n p ≡ p = get_or_from_slice_get plans n p p to in
      let here : list ≡ map joined_reply (places_of (mine x n) (count x)) =
      sym (get_or_from_slice_get lists n list [] at) ∙ own_list n low in
      let places : places_of (mine x n) (count x) ≡ own_places x (door_of p) =
      places_alike (mine x n) (is_own x (door_of p)) (count x) (mine_is_own x apart n p inside there) in
      ap (λ (lot : LotParts). settlement_text lot dealt.stamp list) is.lot
      ∙ ap (settlement_text batch.head.lot dealt.stamp) (here ∙ ap (map joined_reply) places)))

  -- with the replies to the strays they are the replies to all records
  module _ (strays : List Reply)
      (others : strays ≡ map (λ place. rejected_reply (record_at dealt.asked.items place)) (places_at dealt (length plans))) where
    abbrev all : List (List Reply)
    all = lists ++ strays ∷ []

    long_all : length all ≡ length plans + 1
    long_all = let more = length-append lists (strays ∷ []) in let long = picked.long in omega (arith, more, long, many)

    one_number : length numbers ≡ count x
    one_number = length-map batch.details (λ (d : Detail). plan_named (doors_of plans) d.text)

    stray_list : strays ≡ map joined_reply (places_of (mine x (length plans)) (count x))
    stray_list =
        others ∙ strays_are x dealt is
        ∙ map_places (mine x (length plans)) (λ place. stray_reply (doors_of plans) (request_at x place)) joined_reply (count x)
        (λ i one to its. sym (other_reply (length plans) i (sym many) (of_number (length plans) i its)))

    of_list : (k : ℕ) → k < length all → get_or all k [] ≡ map joined_reply (places_of (mine x k) (count x))
    of_list k low = elim (cases_lt k (length texts)) [
      | inl one ↦
          let long = picked.long in
          get_or_append_left lists (strays ∷ []) [] k (omega (arith, one, long)) ∙ own_list k one
      | inr none ↦
          let long = picked.long in
          let last : k ≡ length lists = omega (arith, low, none, long_all, long, many) in
          let plan : k ≡ length plans = omega (arith, last, long, many) in
          ap (λ n. get_or all n []) last ∙ get_or-append_seam lists strays [] [] ∙ stray_list
          ∙ ap (λ n. map joined_reply (places_of (mine x n) (count x))) (sym plan)
    ]

    pub are_replies : AreReplies joined_reply numbers all
    are_replies = record {
      within = λ i d low.
          let inside : i < count x = omega (arith, low, one_number) in
          let number = get_or-map (λ (e : Detail). plan_named (doors_of plans) e.text) batch.details i no_detail d inside in
          let below = plan_at-within (door_in (get_or batch.details i no_detail).text) (doors_of plans) in
          let doors_long = length-map plans door_of in
          omega (arith, number, below, doors_long, long_all);
      each = λ k low. of_list k low ∙ ap (λ n. map joined_reply (places_of (mine x k) n)) (sym one_number);
    }
