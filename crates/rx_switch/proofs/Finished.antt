-- What each plan makes of the records that are dealt out to it is what the switch gives.
use Rattle.std.proofs.Common.{◌≡◌, ℕ, suc, ◌+◌, ◌-◌, ◌<◌, true, List, [], ◌∷◌, ◌++◌, get_or, length, map, ap, sym, subst, ◌∙◌}
use Rattle.std.proofs.Common.{inl, inr, arith}
use Rattle.std.specs.List.{All}
use Rattle.std.proofs.lemmas.Bool.{cases_lt, eqb-true}
use Rattle.std.proofs.Math.Seq.{get_or-append_seam}
use Rattle.std.proofs.lemmas.List.{get_or-map, get_or_append_left, get_or_default, get_or_past, length-append, length-map}
use Rattle.std.proofs.lemmas.List.FromFn.{get_or-range_with_len}
use Rattle.rx_batch.specs.declared.detail.Detail.{Detail}
use Rattle.rx_books_store.specs.BooksText.{books_text}
use Rattle.rx_books_text.specs.declared.version.Version.TheVariants.{Three}
use Rattle.rx_d0_request.specs.Doors.{routed, stray, stray_reply}
use Rattle.rx_d0_values.specs.declared.reply.Reply.{Reply}
use Rattle.rx_d0_values.specs.declared.transmission.Transmission.{Transmission}
use Rattle.rx_schedule.specs.Footprints.{record_at}
use Rattle.rx_schedule.specs.Shards.{is_of, ledger_of, places_of, replies_of}
use Rattle.rx_schedule.specs.Waves.{number_in}
use Rattle.rx_schedule.proofs.Chosen.{places_chosen}
use Rattle.rx_settle.specs.Settlement.{settlement_text}
use Rattle.rx_wave.specs.AtDoors.{transmissions_routed}
use Rattle.rx_wave.specs.Jobs.{AreReplies, IsPlaceOf}
use Rattle.rx_wave.proofs.Lists.{an_item}
use Rattle.rx_switch.specs.declared.dealt_records.DealtRecords.{DealtRecords}
use Rattle.rx_switch.specs.declared.finished_plans.FinishedPlans.{FinishedPlans}
use Rattle.rx_switch.specs.declared.open_plans.OpenPlan.{OpenPlan}
use Rattle.rx_switch.specs.RouteParts.{AreFinished, AreNumbered, IsDealt, IsRejected, its_output, its_replies, opened}
use Rattle.rx_switch.specs.RouteParts.{numbers_of, output_texts, places_at, rejected_reply}
use Rattle.rx_switch.specs.Routed.{OnePlan, Switched, are_apart, doors_of, plan_output, request_at, routed_reply}
use Rattle.rx_switch.proofs.Alone.{map_places}
use Rattle.rx_switch.proofs.Mapped.{same_mapped}
use Rattle.rx_switch.proofs.Routing.{are_routed, plan_ledger, plan_own, plan_replies, stray_replies}

module _ (x : Switched) (dealt : DealtRecords) (is : IsDealt x dealt) where
  abbrev mixed : List Transmission
  mixed = transmissions_routed (doors_of x.plans) x.details

  abbrev chosen : ℕ → List ℕ
  chosen k = places_of (is_of (number_in (numbers_of x)) k) (length x.details)

  long_mixed : length mixed ≡ length x.details
  long_mixed = length-map x.details (λ (d : Detail). routed (doors_of x.plans) d.text)

  pub long_asked : length dealt.asked.items ≡ length x.details
  long_asked = ap length is.asked ∙ long_mixed

  -- the places of a number are places of records
  places_low : (k : ℕ) → k < suc (length x.plans) → All (IsPlaceOf (length dealt.asked.items)) (places_at dealt k)
  places_low k low =
      subst (All (IsPlaceOf (length dealt.asked.items))) (sym (is.places k low)) (λ i d inside.
      let place = places_chosen (is_of (number_in (numbers_of x)) k) (length x.details) i d inside in
      let long = long_asked in
      let to = place.to in
      record { from_one = place.from_one; to_count = omega (arith, to, long) })

  pub are_places : (k : ℕ) → All (IsPlaceOf (length dealt.asked.items)) (places_at dealt k)
  are_places k = elim (cases_lt k (suc (length x.plans))) [
    | inl low ↦ places_low k low
    | inr high ↦
        let lists : List (List ℕ) = map (λ places. places.items) dealt.places.items in
        let long : length lists ≡ length dealt.places.items = length-map dealt.places.items _ in
        let count = is.long in
        let none : places_at dealt k ≡ [] = get_or_past lists k [] (omega (arith, long, count, high)) in
        subst (All (IsPlaceOf (length dealt.asked.items))) (sym none) (λ i d inside. absurd (omega arith))
  ]

  -- the records of the last number are strays
  pub are_rejected : All (λ place. IsRejected (record_at dealt.asked.items place).body) (places_at dealt (length x.plans))
  are_rejected =
      subst (All (λ place. IsRejected (record_at dealt.asked.items place).body)) (sym (is.places (length x.plans) (omega arith)))
      (λ i d inside.
      let place = places_chosen (is_of (number_in (numbers_of x)) (length x.plans)) (length x.details) i d inside in
      let at : ℕ = get_or (chosen (length x.plans)) i d in
      let number = eqb-true (number_in (numbers_of x) at) (length x.plans) place.is in
      let there : record_at dealt.asked.items at ≡ stray (doors_of x.plans) (request_at x at) =
      ap (λ ts. record_at ts at) is.asked ∙ (stray_replies x at place.from_one place.to number).0 in
      subst (λ (t : Transmission). IsRejected t.body) (sym there) tt)

  pub strays_are : map (λ place. rejected_reply (record_at dealt.asked.items place)) (places_at dealt (length x.plans))
      ≡ map (λ place. stray_reply (doors_of x.plans) (request_at x place)) (chosen (length x.plans))
  strays_are =
      ap (map (λ place. rejected_reply (record_at dealt.asked.items place))) (is.places (length x.plans) (omega arith))
      ∙ ap (λ ts. map (λ place. rejected_reply (record_at ts place)) (chosen (length x.plans))) is.asked
      ∙ map_places (is_of (number_in (numbers_of x)) (length x.plans)) (λ place. rejected_reply (record_at mixed place))
      (λ place. stray_reply (doors_of x.plans) (request_at x place)) (length x.details)
      (λ i one to its. ap rejected_reply
      (stray_replies x i one to (eqb-true (number_in (numbers_of x) i) (length x.plans) its)).0)

  -- the plans, each with the number of its place
  module _ (plans : List OpenPlan) (are : x.plans ≡ map opened plans) (numbers : AreNumbered plans)
      (apart : are_apart (doors_of x.plans) ≡ true) where
    long_plans : length x.plans ≡ length plans
    long_plans = ap length are ∙ length-map plans opened

    module _ (k : ℕ) (plan : OpenPlan) (inside : k < length plans) (there : get_or plans k plan ≡ plan) where
      low : k < length x.plans
      low = omega (arith, inside, long_plans)

      up : k < suc (length x.plans)
      up = let below = low in omega (arith, below)

      is_there : get_or x.plans k (opened plan) ≡ opened plan
      is_there = ap (λ (ps : List OnePlan). get_or ps k (opened plan)) are
          ∙ get_or-map opened plans k plan (opened plan) inside ∙ ap opened there

      its_number : plan.number ≡ k
      its_number =
          let place : 0 + k ≡ k = omega arith in
          ap (λ (p : OpenPlan). p.number) (sym there)
          ∙ sym (get_or-map (λ (p : OpenPlan). p.number) plans k plan 0 inside)
          ∙ ap (λ (ns : List ℕ). get_or ns k 0) numbers
          ∙ get_or-range_with_len 0 (length plans) k 0 inside ∙ place

      its_places : places_at dealt plan.number ≡ chosen k
      its_places = ap (places_at dealt) its_number ∙ is.places k up

      replies_are : its_replies dealt plan ≡ replies_of x.head.lot plan.sheet mixed (chosen k) plan.books.ledger
      replies_are =
          ap (λ lot. replies_of lot plan.sheet dealt.asked.items (places_at dealt plan.number) plan.books.ledger) is.lot
          ∙ ap (λ ts. replies_of x.head.lot plan.sheet ts (places_at dealt plan.number) plan.books.ledger) is.asked
          ∙ ap (λ places. replies_of x.head.lot plan.sheet mixed places plan.books.ledger) its_places

      output_is : its_output dealt plan ≡ plan_output x (opened plan)
      output_is =
          let ledger =
          ap (λ lot. ledger_of lot plan.sheet dealt.asked.items (places_at dealt plan.number) plan.books.ledger) is.lot
          ∙ ap (λ ts. ledger_of x.head.lot plan.sheet ts (places_at dealt plan.number) plan.books.ledger) is.asked
          ∙ ap (λ places. ledger_of x.head.lot plan.sheet mixed places plan.books.ledger) its_places
          ∙ plan_ledger x apart k (opened plan) low is_there in
          let replies = replies_are ∙ plan_replies x apart k (opened plan) low is_there
          ∙ plan_own x apart k (opened plan) low is_there in
          let books = ap (books_text Three plan.sheet.figures.period) ledger in
          let settlement =
          ap (λ lot. settlement_text lot dealt.stamp (its_replies dealt plan)) is.lot
          ∙ ap (λ stamp. settlement_text x.head.lot stamp (its_replies dealt plan)) is.stamp
          ∙ ap (settlement_text x.head.lot x.stamp) replies in
          λ i. record { books = books i; settlement = settlement i }

    -- the replies to the records of each plan and those to the strays are those of the switch, and so are the outputs
    pub all_finished : (lists : List (List Reply)) (strays : List Reply) (finished : FinishedPlans)
        → lists ≡ map (its_replies dealt) plans
        → strays ≡ map (λ place. rejected_reply (record_at dealt.asked.items place)) (places_at dealt (length x.plans))
        → map (λ list. list.items) finished.lists.items ≡ lists ++ strays ∷ []
        → map output_texts finished.outputs.items ≡ map (its_output dealt) plans → AreFinished x finished
    all_finished lists strays finished made last all outputs =
        let same = long_plans in
        let long_lists : length lists ≡ length x.plans =
        ap length made ∙ length-map plans (its_replies dealt) ∙ sym long_plans in
        let long : length (lists ++ strays ∷ []) ≡ suc (length x.plans) =
        let more = length-append lists (strays ∷ []) in omega (arith, more, long_lists) in
        let each : (k : ℕ) (p : OnePlan) → k < length x.plans → get_or x.plans k p ≡ p
        → get_or (lists ++ strays ∷ []) k [] ≡ replies_of x.head.lot p.plan mixed (chosen k) p.opening =
        λ k p low there.
        let inside : k < length plans = omega (arith, low, same) in
        let some : OpenPlan = an_item plans k inside in
        let plan : OpenPlan = get_or plans k some in
        let stands : get_or plans k plan ≡ plan = get_or_default plans k plan some inside in
        let one : opened plan ≡ p = sym (is_there k plan inside stands)
        ∙ get_or_default x.plans k (opened plan) p low ∙ there in
        get_or_append_left lists (strays ∷ []) [] k (omega (arith, low, long_lists))
        ∙ ap (λ (ls : List (List Reply)). get_or ls k []) made
        ∙ get_or-map (its_replies dealt) plans k plan [] inside
        ∙ ap (its_replies dealt) stands
        ∙ replies_are k plan inside stands
        ∙ ap (λ (q : OnePlan). replies_of x.head.lot q.plan mixed (chosen k) q.opening) one in
        let at_end : get_or (lists ++ strays ∷ []) (length x.plans) []
        ≡ map (λ place. stray_reply (doors_of x.plans) (request_at x place)) (chosen (length x.plans)) =
        ap (λ n. get_or (lists ++ strays ∷ []) n []) (sym long_lists) ∙ get_or-append_seam lists strays [] []
        ∙ last ∙ strays_are in
        record {
          replies = subst (AreReplies (routed_reply x) (numbers_of x)) (sym all)
              (are_routed x apart (lists ++ strays ∷ []) long each at_end);
          outputs = outputs ∙ same_mapped (its_output dealt) opened (plan_output x) plans output_is
              ∙ ap (map (plan_output x)) (sym are);
        }
