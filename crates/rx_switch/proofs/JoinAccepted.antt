-- The response files of the plans' own runs are joined, unless memory runs out.
use Rattle.std.proofs.Common.{◌≡◌, ◌≤◌, ℕ, ◌<◌, ◌-◌, true, List, [], ◌∷◌, Result, Ok, Err, Some, get_or, length, map, take, refl, ap}
use Rattle.std.proofs.Common.{sym, subst}
use Rattle.std.proofs.Common.{◌∙◌, arith}
use Rattle.std.specs.List.{slice_get}
use Rattle.std.specs.Option.{option_map}
use Rattle.std.proofs.lemmas.List.{get_or-map, length-map, length-take-le}
use Rattle.std.proofs.lemmas.Option.{get_or_from_slice_get, slice_get-map, slice_get_within}
use Rattle.rx_batch.specs.declared.batch.Batch.{Batch}
use Rattle.rx_batch.specs.declared.detail.Detail.{Detail}
use Rattle.rx_batch.specs.declared.head.Head.{Head}
use Rattle.rx_batch.specs.Grammar.{IsFile}
use Rattle.rx_batch.proofs.Readings.{fault_is_read, file_is_read}
use Rattle.rx_d0_reply.specs.Text.{reply_text}
use Rattle.rx_d0_request.specs.Doors.{door_in, names_plan, routed}
use Rattle.rx_d0_values.specs.declared.reply.Reply.{Reply}
use Rattle.rx_d0_values.specs.declared.transmission.Transmission.{Transmission}
use Rattle.rx_fields.specs.declared.door.Door.{Door}
use Rattle.rx_ledger.specs.Plan.{Plan}
use Rattle.rx_response.specs.Response.{response_details, response_head}
use Rattle.rx_schedule.specs.Footprints.{record_at}
use Rattle.rx_schedule.specs.Jobs.{ledger_before, reply_at}
use Rattle.rx_schedule.proofs.Chosen.{places_chosen}
use Rattle.rx_sheet.specs.SheetText.{sheet_of_text}
use Rattle.rx_show.specs.ResponseFile.{as_batch}
use Rattle.rx_wave.specs.Decoding.{transmissions_of}
use Rattle.rx_switch.specs.declared.join_fault.JoinFault.{JoinFault}
use Rattle.rx_switch.specs.declared.join_fault.JoinFault.TheVariants as fault
use Rattle.rx_switch.specs.JoinLaw.{AreRunsOf, ReadsAsRun}
use Rattle.rx_switch.specs.JoinParts.{stamp_in}
use Rattle.rx_switch.specs.JoinRefused.{HasDoor, HasReply, IsNotJoined, reference_at}
use Rattle.rx_switch.specs.JoinRefused.IsNotJoined.{none, sheet, door, batch, response, other_batch, other_stamp, other_detail}
use Rattle.rx_switch.specs.JoinRefused.IsNotJoined.{other_reply, memory}
use Rattle.rx_switch.specs.Joined.{JoinGiven, JoinStandsFor, PlanResponse}
use Rattle.rx_switch.specs.MayReply.{MayReply}
use Rattle.rx_switch.specs.Output.{replies}
use Rattle.rx_switch.specs.Own.{no_reply, own_places}
use Rattle.rx_switch.specs.Routed.{OnePlan, SwitchGiven, SwitchStandsFor, Switched, are_apart, door_of, doors_of, is_own, no_detail}
use Rattle.rx_switch.specs.Routed.{request_at, run_of}
use Rattle.rx_switch.proofs.JoinAnswers.{reply_may}
use Rattle.rx_switch.proofs.JoinLists.{taken_at, zipped_at, zipped_to}
use Rattle.rx_switch.proofs.JoinRuns.{each_within, same_doors, same_file, text_there}
use Rattle.rx_switch.proofs.OneOutput.{batch_read, good_same}
use Rattle.rx_switch.proofs.Replied.{replied}
use Rattle.rx_switch.proofs.Routing.{mine_is_own, named_number, names_self, reply_there, routed_is, routed_there, same_there}

-- ---- what a run replies its record may get

module _ (x : Switched) (apart : are_apart (doors_of x.plans) ≡ true) (n : ℕ) (p : OnePlan) (low : n < length x.plans)
    (there : get_or x.plans n p ≡ p) where
  run_may : (place : ℕ) → 1 ≤ place → place ≤ length x.details → is_own x (door_of p) place ≡ true
      → MayReply x.head.lot place (routed (doors_of x.plans) (request_at x place)) (get_or (replies (run_of x p)) (place - 1) no_reply)
  run_may place one to its =
      let records : List Transmission = transmissions_of (door_of p) x.details in
      let mine = mine_is_own x apart n p low there place one to ∙ its in
      let asked : record_at records place ≡ routed (doors_of x.plans) (request_at x place) =
      sym (same_there x apart n p low there place one to mine) ∙ routed_there x place one to in
      let given : reply_at x.head.lot p.plan p.opening records place ≡ get_or (replies (run_of x p)) (place - 1) no_reply =
      reply_there x apart n p low there place one to mine ∙ routed_is x apart n p low there place one to its in
      subst (MayReply x.head.lot place (routed (doors_of x.plans) (request_at x place))) given
      (subst (λ (t : Transmission). MayReply x.head.lot place t (reply_at x.head.lot p.plan p.opening records place)) asked
      (reply_may x.head.lot p.plan place (record_at records place) (ledger_before x.head.lot p.plan p.opening records place)))

-- ---- texts

not_both : {A E : Type 0} (x : A) (e : E) (r : Result A E) → r ≡ Ok x → r ≡ Err e → ⊥
not_both x e r is was = let bad : Ok x ≡ Err e = sym is ∙ was in cc

same_references : (details : List Detail) (rs : List Reply) → length rs ≡ length details
    → map (λ (d : Detail). d.reference) (response_details details rs) ≡ map (λ (d : Detail). d.reference) details
same_references [] [] long = refl
same_references [] (r ∷ rs) long = absurd (let never : ⊥ = omega (arith, long) in never)
same_references (d ∷ details) [] long = absurd (let never : ⊥ = omega (arith, long) in never)
same_references (d ∷ details) (r ∷ rs) long = ap (λ (refs : List (List ℕ)). d.reference ∷ refs)
    (same_references details rs (omega (arith, long)))

reference_there : (own details : List Detail) (place : ℕ)
    → map (λ (d : Detail). d.reference) own ≡ map (λ (d : Detail). d.reference) details
    → reference_at own place ≡ reference_at details place
reference_there own details place same =
    sym (slice_get-map (λ (d : Detail). d.reference) own (place - 1))
    ∙ ap (λ (refs : List (List ℕ)). slice_get refs (place - 1)) same
    ∙ slice_get-map (λ (d : Detail). d.reference) details (place - 1)

-- ---- a join of the runs

module _ (g : SwitchGiven) (x : Switched) (stands : SwitchStandsFor g x) (j : JoinGiven) (runs : AreRunsOf g.batch x j) where
  abbrev apart : are_apart (doors_of x.plans) ≡ true
  apart = stands.plans.apart

  -- the plan of a text, which reads as its run
  read_at : (n : ℕ) (t : PlanResponse) → slice_get j.plans n ≡ Some t
      → (p : OnePlan) × (slice_get x.plans n ≡ Some p) × ReadsAsRun x t p
  read_at n t at = zipped_to (ReadsAsRun x) j.plans x.plans n t runs.each at

  its_door : (n : ℕ) (t : PlanResponse) (at : slice_get j.plans n ≡ Some t) (d : Door) → HasDoor t d → door_of (read_at n t at).0 ≡ d
  its_door n t at d has =
      let plans : (read_at n t at).0.plan ≡ has.0 = good_same (read_at n t at).0.plan has.0 (sym (read_at n t at).2.sheet ∙ has.1) in
      ap (λ (plan : Plan). plan.figures.door) plans ∙ has.2

  same_batch : (y : Switched) → JoinStandsFor j y → (y.head ≡ x.head) × (y.details ≡ x.details)
  same_batch y is =
      let same : batch_read y.head y.details ≡ batch_read x.head x.details =
      good_same (batch_read y.head y.details) (batch_read x.head x.details)
      (sym (file_is_read j.batch y.head y.details is.batch)
      ∙ file_is_read j.batch x.head x.details (subst (λ bs. IsFile bs x.head x.details) (sym runs.same) stands.batch)) in
      (ap (λ (b : Batch). b.head) same, ap (λ (b : Batch). b.details) same)

  long_replies : (p : OnePlan) → length (replies (run_of x p)) ≡ length x.details
  long_replies p = replied x.head.lot p.plan 1 (door_of p) x.details p.opening

  -- two plans at one door
  not_apart : (n k : ℕ) (p q : OnePlan) → slice_get x.plans n ≡ Some p → slice_get x.plans k ≡ Some q → k < n
      → names_plan (door_of q) (door_of p) ≡ true → ⊥
  not_apart n k p q at to less named =
      let doors = doors_of x.plans in
      let long = length-map x.plans door_of in
      let low = slice_get_within x.plans n p at in
      let below = slice_get_within x.plans k q to in
      let door_at : get_or doors n (door_of p) ≡ door_of p =
      get_or-map door_of x.plans n p (door_of p) low ∙ ap door_of (get_or_from_slice_get x.plans n p p at) in
      let door_to : get_or doors k (door_of q) ≡ door_of q =
      get_or-map door_of x.plans k q (door_of q) below ∙ ap door_of (get_or_from_slice_get x.plans k q q to) in
      let first = named_number doors apart n (door_of p) (door_of q) (omega (arith, low, long)) door_at named in
      let second = named_number doors apart k (door_of q) (door_of q) (omega (arith, below, long)) door_to (names_self (door_of q)) in
      omega (arith, first, second, less)

  -- the run's reply stands at each place of its records
  module _ (y : Switched) (is : JoinStandsFor j y) (n : ℕ) (t : PlanResponse) (at : slice_get j.plans n ≡ Some t) (q : OnePlan)
      (to : slice_get y.plans n ≡ Some q) (own : List Detail)
      (own_is : own ≡ response_details x.details (replies (run_of x (read_at n t at).0))) where
    has_reply : (place : ℕ) → 1 ≤ place → place ≤ length y.details → is_own y (door_of q) place ≡ true → HasReply y own place
    has_reply place one last its =
        let read = read_at n t at in
        let p : OnePlan = read.0 in
        let rs = replies (run_of x p) in
        let heads = (same_batch y is).0 in
        let details = (same_batch y is).1 in
        let doors : doors_of y.plans ≡ doors_of x.plans = same_doors x j.plans x.plans y.plans runs.each is.sheets in
        let same : door_of q ≡ door_of p =
        let both : Some (door_of q) ≡ Some (door_of p) =
        sym (slice_get-map door_of y.plans n ∙ ap (option_map door_of) to) ∙ ap (λ (ds : List Door). slice_get ds n) doors
        ∙ slice_get-map door_of x.plans n ∙ ap (option_map door_of) read.1 in cc in
        let inside : place ≤ length x.details = let long = ap length details in omega (arith, last, long) in
        let low : place - 1 < length rs = let long = long_replies p in omega (arith, one, inside, long) in
        let low_plan = slice_get_within x.plans n p read.1 in
        let there = get_or_from_slice_get x.plans n p p read.1 in
        let request : request_at y place ≡ request_at x place = ap (λ (ds : List Detail). (get_or ds (place - 1) no_detail).text) details in
        let named : is_own x (door_of p) place ≡ true =
        subst (λ (d : Door). is_own x d place ≡ true) same
        (ap (λ (bytes : List ℕ). names_plan (door_in bytes) (door_of q)) (sym request) ∙ its) in
        let text : (get_or own (place - 1) no_detail).text ≡ reply_text (get_or rs (place - 1) no_reply) =
        ap (λ (ds : List Detail). (get_or ds (place - 1) no_detail).text) own_is
        ∙ text_there x.details rs (place - 1) no_reply (omega (arith, one, inside)) (long_replies p) in
        let may = run_may x apart n p low_plan there place one inside named in (
          get_or rs (place - 1) no_reply,
          (
            (each_within rs (place - 1) no_reply low read.2.within, text),
            subst (λ (h : Head). MayReply h.lot place (routed (doors_of y.plans) (request_at y place)) (get_or rs (place - 1) no_reply))
                (sym heads)
                (subst (λ (ds : List Door). MayReply x.head.lot place (routed ds (request_at y place)) (get_or rs (place - 1) no_reply))
                (sym doors)
                (subst (λ (bytes : List ℕ). MayReply x.head.lot place (routed (doors_of x.plans) bytes) (get_or rs (place - 1) no_reply))
                (sym request) may)),
          ),
        )

  -- so nothing else refuses it
  pub only_memory : 1 ≤ length j.plans → {f : JoinFault} → IsNotJoined j f → f ≡ fault.Memory
  only_memory some (none empty) = absurd (let long = ap length empty in let never : ⊥ = omega (arith, some, long) in never)
  only_memory some (sheet n doors t f next wrong) =
      let read = read_at n t next.next in absurd (not_both read.0.plan f (sheet_of_text t.sheet) read.2.sheet wrong)
  only_memory some (door n earlier doors t d other next has at named) =
      let found = zipped_at HasDoor (take n j.plans) doors earlier other next.earlier.each at in
      let before = taken_at j.plans n earlier found.0 found.1 in
      let later = read_at n t next.next in
      let first = read_at earlier found.0 before in
      let inside = slice_get_within (take n j.plans) earlier found.0 found.1 in
      let low = slice_get_within j.plans n t next.next in
      let long = length-take-le n j.plans (omega (arith, low)) in
      let one : door_of later.0 ≡ d = its_door n t next.next d has in
      let two : door_of first.0 ≡ other = its_door earlier found.0 before other found.2 in
      absurd (not_apart n earlier later.0 first.0 later.1 first.1 (omega (arith, inside, long))
      (ap (λ (a : Door). names_plan a (door_of later.0)) two ∙ ap (names_plan other) one ∙ named))
  only_memory some (batch doors f any have wrong) =
      absurd (not_both (batch_read x.head x.details) f _
      (file_is_read j.batch x.head x.details (subst (λ bs. IsFile bs x.head x.details) (sym runs.same) stands.batch))
      (fault_is_read j.batch f wrong))
  only_memory some (response n y t f next wrong) =
      let file = (read_at n t next.next).2.file in
      absurd (not_both (batch_read file.asked _) f _ (file_is_read (as_batch t.response) file.asked _ file.file)
      (fault_is_read (as_batch t.response) f wrong))
  only_memory some (other_batch n y t sent own next file other) =
      let same = same_file t.response sent (response_head x.head x.stamp) own _ file (read_at n t next.next).2.file in
      absurd (other x.stamp (same.0 ∙ ap (λ (h : Head). response_head h x.stamp) (sym (same_batch y next.accepted).0)))
  only_memory some (other_stamp n y t stamp own next file first other) =
      let its = same_file t.response (response_head y.head stamp) (response_head x.head x.stamp) own _ file
      (read_at n t next.next).2.file in
      let its_first = same_file first.texts.response (response_head y.head y.stamp) (response_head x.head x.stamp) first.own _ first.file
      (read_at 0 first.texts first.first).2.file in
      let one : stamp ≡ x.stamp = ap stamp_in its.0 in
      let two : y.stamp ≡ x.stamp = ap stamp_in its_first.0 in
      absurd (other (one ∙ sym two))
  only_memory some (other_detail n place y t own next file other) =
      let read = read_at n t next.next in
      let same = same_file t.response (response_head y.head y.stamp) (response_head x.head x.stamp) own _ file read.2.file in
      absurd (other.other (reference_there own y.details place
      (ap (map (λ (d : Detail). d.reference)) same.1
      ∙ same_references x.details (replies (run_of x read.0)) (long_replies read.0)
      ∙ ap (map (λ (d : Detail). d.reference)) (sym (same_batch y next.accepted).1))))
  only_memory some (other_reply n place y t q own next to file other) =
      let read = read_at n t next.next in
      let same = same_file t.response (response_head y.head y.stamp) (response_head x.head x.stamp) own _ file.file read.2.file in
      let inside = slice_get_within (own_places y (door_of q)) other.number place other.is in
      let chosen = places_chosen (is_own y (door_of q)) (length y.details) other.number place inside in
      let here = get_or_from_slice_get (own_places y (door_of q)) other.number place place other.is in
      absurd (other.none (has_reply y next.accepted n t next.next q to own same.1 place
      (let from = chosen.from_one in omega (arith, from, here)) (let last = chosen.to in omega (arith, last, here))
      (ap (is_own y (door_of q)) (sym here) ∙ chosen.is)))
  only_memory some memory = refl
