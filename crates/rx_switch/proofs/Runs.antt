-- What a switch gives of a plan is what that plan's run of the whole batch gives.
use Rattle.std.proofs.Common.{◌≡◌, ℕ, zero, suc, ◌+◌, ◌-◌, ◌<◌, List, [], ◌∷◌, Some, get_or, length, refl, ap, sym, ◌∙◌, arith}
use Rattle.std.specs.List.{AllZip, slice_get}
use Rattle.std.specs.Option.{option_map}
use Rattle.std.proofs.lemmas.List.FromFn.{get_or-map-range_with_len, length-map-range_with_len}
use Rattle.std.proofs.lemmas.Option.{get_or_from_slice_get, slice_get-map, slice_get_within}
use Rattle.rx_batch.specs.declared.detail.Detail.{Detail}
use Rattle.rx_d0_values.specs.declared.reply.Reply.{Reply}
use Rattle.rx_response.specs.Response.{response_detail, response_details, response_head}
use Rattle.rx_switch.specs.Output.{IsOutput, Texts, replies, texts_of}
use Rattle.rx_switch.specs.Own.{no_reply}
use Rattle.rx_switch.specs.Routed.{IsRouted, OnePlan, PlanOutput, PlanStandsFor, PlanTexts, SwitchGiven, SwitchTexts, door_of}
use Rattle.rx_switch.specs.Routed.{given_to, no_detail, plan_output, routed_replies, routed_reply, run_of}
use Rattle.rx_switch.specs.Runs.{AnswersAlike}
use Rattle.rx_switch.proofs.OneOutput.{same_texts}
use Rattle.rx_switch.proofs.Replied.{replied}
use Rattle.rx_switch.proofs.Routing.{routed_is}

-- the plan that the texts at a place stand for
plan_at_place : (all : List PlanTexts) (plans : List OnePlan) (n : ℕ) (texts : PlanTexts) → AllZip PlanStandsFor all plans
    → slice_get all n ≡ Some texts → (p : OnePlan) × (slice_get plans n ≡ Some p) × PlanStandsFor texts p
plan_at_place [] [] n texts each at = absurd (let bad : slice_get [] n ≡ Some texts = at in cc)
plan_at_place [] (p ∷ plans) n texts each at = absurd each
plan_at_place (t ∷ all) [] n texts each at = absurd each
plan_at_place (t ∷ all) (p ∷ plans) zero texts each at =
    let same : t ≡ texts = let e : Some t ≡ Some texts = at in cc in
    (p, refl, rw (← same) each.0)
plan_at_place (t ∷ all) (p ∷ plans) (suc n) texts each at = plan_at_place all plans n texts each.1 at

-- the detail at a place, with the reply there
detail_there : (details : List Detail) (replies : List Reply) (k : ℕ) (d : Detail) (r : Reply) → k < length details
    → length replies ≡ length details
    → get_or (response_details details replies) k no_detail ≡ response_detail (get_or details k d) (get_or replies k r)
detail_there [] replies k d r low long = absurd (omega arith)
detail_there (e ∷ details) [] k d r low long = absurd (omega (arith, long))
detail_there (e ∷ details) (s ∷ replies) zero d r low long = refl
detail_there (e ∷ details) (s ∷ replies) (suc k) d r low long =
    detail_there details replies k d r (omega arith) (omega (arith, long))

long_details : (details : List Detail) (replies : List Reply) → length replies ≡ length details
    → length (response_details details replies) ≡ length details
long_details [] replies long = refl
long_details (e ∷ details) [] long = absurd (omega (arith, long))
long_details (e ∷ details) (s ∷ replies) long = ap suc (long_details details replies (omega (arith, long)))

module _ (g : SwitchGiven) (t : SwitchTexts) (n : ℕ) (texts : PlanTexts) (run : Texts) (is : IsRouted g t)
    (at : slice_get g.plans n ≡ Some texts) (ran : IsOutput (given_to g texts) run) where
  found : (p : OnePlan) × (slice_get is.inputs.plans n ≡ Some p) × PlanStandsFor texts p
  found = plan_at_place g.plans is.inputs.plans n texts is.accepted.plans.each at

  -- the run's texts
  run_is : run ≡ texts_of (run_of is.inputs found.0)
  run_is = same_texts (given_to g texts) run (texts_of (run_of is.inputs found.0)) ran record {
    inputs = run_of is.inputs found.0;
    accepted = record {
      stamp = is.accepted.stamp;
      sheet = found.2.sheet;
      books = found.2.books;
      batch = is.accepted.batch;
    };
    texts_are = refl;
  }

  pub same_books : option_map (λ (o : PlanOutput). o.books) (slice_get t.plans n) ≡ Some run.books
  same_books =
      ap (λ (u : SwitchTexts). option_map (λ (o : PlanOutput). o.books) (slice_get u.plans n)) is.texts_are
      ∙ ap (option_map (λ (o : PlanOutput). o.books)) (slice_get-map (plan_output is.inputs) is.inputs.plans n)
      ∙ ap (λ o. option_map (λ (o : PlanOutput). o.books) (option_map (plan_output is.inputs) o)) found.1
      ∙ ap (λ (u : Texts). Some u.books) (sym run_is)

  pub same_answers : AnswersAlike texts.sheet g.batch t.response run.response
  same_answers =
      let x = is.inputs in
      let p = found.0 in
      let details = x.details in
      let mixed = routed_replies x in
      let own = replies (run_of x p) in
      let long_mixed : length mixed ≡ length details = length-map-range_with_len (routed_reply x) 1 (length details) in
      let long_own : length own ≡ length details =
      replied x.head.lot p.plan 1 (door_of p) details p.opening in
      record {
        plan = p.plan;
        head = x.head;
        details = details;
        sheet_is = found.2.sheet;
        batch_is = is.accepted.batch;
        response_head = response_head x.head x.stamp;
        our = response_details details mixed;
        their = response_details details own;
        ours_are = ap (λ (u : SwitchTexts). u.response) is.texts_are;
        theirs_are = ap (λ (u : Texts). u.response) run_is;
        our_long = long_details details mixed long_mixed;
        their_long = long_details details own long_own;
        same = λ place one to named.
            let low : place - 1 < length details = omega (arith, one, to) in
            let low_plan = slice_get_within x.plans n p found.1 in
            let there : get_or x.plans n p ≡ p = get_or_from_slice_get x.plans n p p found.1 in
            let e : 1 + (place - 1) ≡ place = omega (arith, one) in
            let reply : get_or mixed (place - 1) no_reply ≡ get_or own (place - 1) no_reply =
            get_or-map-range_with_len (routed_reply x) 1 (length details) (place - 1) place no_reply low e
            ∙ routed_is x is.accepted.plans.apart n p low_plan there place one to named in
            detail_there details mixed (place - 1) no_detail no_reply low long_mixed
            ∙ ap (response_detail (get_or details (place - 1) no_detail)) reply
            ∙ sym (detail_there details own (place - 1) no_detail no_reply low long_own);
      }
