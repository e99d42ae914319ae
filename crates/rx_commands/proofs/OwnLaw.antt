-- What the report of a plan's own records counts is what a switch settles for the plan.
use Rattle.std.proofs.Common.{◌≡◌, ℕ, zero, suc, ◌-◌, ◌≤◌, List, Option, None, Ok, Some, get_or, length, map, refl, sym, ap, ◌∙◌, arith}
use Rattle.std.specs.List.{slice_get}
use Rattle.std.specs.Option.{IsSomeAnd, option_map}
use Rattle.std.proofs.lemmas.Option.{get_or_from_slice_get, slice_get-get_or, slice_get-map, slice_get_within}
use Rattle.std.proofs.lemmas.Slice.Zip.{AllZip-left}
use Rattle.rx_batch.specs.declared.detail.Detail.{Detail}
use Rattle.rx_batch.proofs.Readings.{file_is_read}
use Rattle.rx_d0_request.specs.Doors.{door_in, names_plan}
use Rattle.rx_fields.specs.declared.stamp.Stamp.{Stamp}
use Rattle.rx_ledger.specs.Fold.{fold_replies}
use Rattle.rx_schedule.specs.Shards.{places_of}
use Rattle.rx_settle.specs.Settlement.{settlement_text}
use Rattle.rx_switch.specs.Output.{replies, stamp_for}
use Rattle.rx_switch.specs.Own.{no_reply}
use Rattle.rx_switch.specs.Routed.{IsRouted, OnePlan, PlanOutput, PlanStandsFor, PlanTexts, SwitchGiven, SwitchTexts, Switched, door_of}
use Rattle.rx_switch.specs.Routed.{is_own, no_detail, own_replies, plan_output, run_of}
use Rattle.rx_switch.proofs.Alone.{places_alike}
use Rattle.rx_switch.proofs.OneOutput.{batch_read, books_are, books_read, good_same}
use Rattle.rx_switch.proofs.Routing.{own_are}
use Rattle.rx_wave.specs.Decoding.{transmissions_of}
use Rattle.rx_commands.proofs.Items.{item_of}
use Rattle.rx_commands.specs.Explaining.{request_at, text_of}
use Rattle.rx_commands.specs.Own.{is_own as is_own_here, own_replies as own_replies_here}
use Rattle.rx_commands.specs.Reported.{IsReported}
use Rattle.rx_commands.specs.declared.batch_report.Report.{Report}

request_there : (details : List Detail) (i : ℕ) → 1 ≤ i → i ≤ length details
    → request_at details i ≡ (get_or details (i - 1) no_detail).text
request_there details zero one to = absurd (omega arith)
request_there details (suc j) one to =
    let e : j ≡ suc j - 1 = omega arith in
    ap text_of (item_of details j ∙ slice_get-get_or details j no_detail (omega arith))
    ∙ ap (λ n. (get_or details n no_detail).text) e

module _ (g : SwitchGiven) (t : SwitchTexts) (n : ℕ) (texts : PlanTexts) (stamp : Stamp) (whole : Report) (is : IsRouted g t)
    (at : slice_get g.plans n ≡ Some texts) (stamped : stamp_for g.workers g.stamp ≡ Ok stamp)
    (reported : IsReported texts.sheet texts.books g.batch whole) where
  abbrev x : Switched
  x = is.inputs

  some_plan : (o : Option OnePlan) → IsSomeAnd o (PlanStandsFor texts)
      → (p : OnePlan) × (o ≡ Some p) × PlanStandsFor texts p
  some_plan None none = absurd none
  some_plan (Some p) stands = (p, refl, stands)

  -- the plan
  found : (p : OnePlan) × (slice_get x.plans n ≡ Some p) × PlanStandsFor texts p
  found =
      let each = AllZip-left PlanStandsFor g.plans x.plans is.accepted.plans.each n in
      some_plan (slice_get x.plans n) (rw at at each)

  same_plan : whole.batch.sheet ≡ found.0.plan
  same_plan = good_same whole.batch.sheet found.0.plan (sym reported.accepted.sheet_is ∙ found.2.sheet)

  same_books : books_read reported.period whole.batch.opening.ledger ≡ books_read found.0.period found.0.opening
  same_books = good_same (books_read reported.period whole.batch.opening.ledger) (books_read found.0.period found.0.opening)
      (sym (books_are texts.books reported.period whole.batch.opening.ledger reported.books_are)
      ∙ books_are texts.books found.0.period found.0.opening found.2.books)

  same_batch : batch_read reported.head whole.batch.details ≡ batch_read x.head x.details
  same_batch = good_same (batch_read reported.head whole.batch.details) (batch_read x.head x.details)
      (sym (file_is_read g.batch reported.head whole.batch.details reported.accepted.batch_is)
      ∙ file_is_read g.batch x.head x.details is.accepted.batch)

  same_lot : whole.batch.lot ≡ x.head.lot
  same_lot = reported.lot_is ∙ ap (λ b. b.head.lot) same_batch

  same_details : whole.batch.details ≡ x.details
  same_details = ap (λ b. b.details) same_batch

  same_replies : whole.batch.replies.items ≡ replies (run_of x found.0)
  same_replies =
      let b = whole.batch in
      reported.replies_are ∙ ap (λ ts. fold_replies b.lot b.sheet 1 ts b.opening.ledger) reported.asked_are
      ∙ (λ j. fold_replies (same_lot j) (same_plan j) 1 (transmissions_of (same_plan j).figures.door (same_details j))
      (same_books j).ledger)

  same_own : (i : ℕ) → 1 ≤ i → i ≤ length whole.batch.details
      → is_own_here whole.batch i ≡ is_own x (door_of found.0) i
  same_own i one to =
      ap (λ text. names_plan (door_in text) whole.batch.sheet.figures.door) (request_there whole.batch.details i one to)
      ∙ (λ j. names_plan (door_in (get_or (same_details j) (i - 1) no_detail).text) (same_plan j).figures.door)

  own_same : own_replies_here whole.batch ≡ own_replies x found.0
  own_same =
      let p = found.0 in
      let low = slice_get_within x.plans n p found.1 in
      let there : get_or x.plans n p ≡ p = get_or_from_slice_get x.plans n p p found.1 in
      (λ j. map (λ place. get_or (same_replies j) (place - 1) no_reply)
      (places_of (is_own_here whole.batch) (length whole.batch.details)))
      ∙ ap (map (λ place. get_or (replies (run_of x p)) (place - 1) no_reply))
      (places_alike (is_own_here whole.batch) (is_own x (door_of p)) (length whole.batch.details) same_own
      ∙ ap (λ (ds : List Detail). places_of (is_own x (door_of p)) (length ds)) same_details)
      ∙ sym (own_are x is.accepted.plans.apart n p low there)

  pub own_settled : option_map (λ (o : PlanOutput). o.settlement) (slice_get t.plans n)
      ≡ Some (settlement_text whole.batch.lot stamp (own_replies_here whole.batch))
  own_settled =
      let same_stamp : stamp ≡ x.stamp = good_same stamp x.stamp (sym stamped ∙ is.accepted.stamp) in
      ap (λ (u : SwitchTexts). option_map (λ (o : PlanOutput). o.settlement) (slice_get u.plans n)) is.texts_are
      ∙ ap (option_map (λ (o : PlanOutput). o.settlement)) (slice_get-map (plan_output x) x.plans n)
      ∙ ap (λ o. option_map (λ (o : PlanOutput). o.settlement) (option_map (plan_output x) o)) found.1
      ∙ sym (λ j. Some (settlement_text (same_lot j) (same_stamp j) (own_same j)))
