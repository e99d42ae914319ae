-- Plumbing: what a switch's job gives, what its plans make of it, and its output as texts.
use Rattle.std.specs.Prelude.{◌≡◌, ◌<◌, ℕ, suc, List, [], length, map}
use Rattle.std.specs.Arc.{arc_value}
use Rattle.std.specs.List.{range_with_len}
use Rattle.rx_batch.specs.declared.batch.Batch.{Batch}
use Rattle.rx_books_store.specs.BooksText.{books_text}
use Rattle.rx_books_text.specs.declared.version.Version.TheVariants.{Three}
use Rattle.rx_d0_request.specs.Doors.{plan_named}
use Rattle.rx_d0_values.specs.declared.reply.Outcome.{Outcome}
use Rattle.rx_d0_values.specs.declared.reply.Outcome.TheVariants as outcome
use Rattle.rx_d0_values.specs.declared.reply.Reply.{Reply}
use Rattle.rx_d0_values.specs.declared.transmission.Body.{Body}
use Rattle.rx_d0_values.specs.declared.transmission.Body.TheVariants as body
use Rattle.rx_d0_values.specs.declared.transmission.Transmission.{Transmission}
use Rattle.rx_fields.specs.Numbered.{LotParts}
use Rattle.rx_fields.specs.declared.stamp.Stamp.{Stamp}
use Rattle.rx_schedule.specs.Shards.{is_of, ledger_of, list_at, places_of, replies_of}
use Rattle.rx_schedule.specs.Waves.{number_in}
use Rattle.rx_settle.specs.Settlement.{settlement_text}
use Rattle.rx_switch.specs.declared.dealt_records.DealtRecords.{DealtRecords}
use Rattle.rx_switch.specs.declared.finished_plans.FinishedPlans.{FinishedPlans}
use Rattle.rx_switch.specs.declared.finished_plans.PlanShare.{PlanShare}
use Rattle.rx_switch.specs.declared.open_plans.OpenPlan.{OpenPlan}
use Rattle.rx_switch.specs.declared.route_job.PlanJob.{PlanJob}
use Rattle.rx_switch.specs.declared.route_job.PlanOutput.{PlanOutput as PlanOutputValue}
use Rattle.rx_switch.specs.declared.route_job.RouteJob.{RouteJob}
use Rattle.rx_switch.specs.declared.route_job.RouteOutput.{RouteOutput}
use Rattle.rx_switch.specs.declared.several_plans.AcceptedPlans.{AcceptedPlans}
use Rattle.rx_switch.specs.Routed.{OnePlan, PlanOutput, PlanTexts, SwitchGiven, SwitchTexts, Switched, doors_of}
use Rattle.rx_switch.specs.Routed.{plan_output, routed_reply}
use Rattle.rx_wave.specs.AtDoors.{transmissions_routed}
use Rattle.rx_wave.specs.Jobs.{AreReplies}

abbrev pub plan_texts : PlanJob → PlanTexts
plan_texts job = record { sheet = job.sheet.now; books = (arc_value job.books.now).items }

abbrev pub given_route : RouteJob → SwitchGiven
given_route job =
    record {
      plans = map plan_texts job.plans.now;
      batch = job.batch.now;
      stamp = job.stamp.now;
      workers = job.workers;
    }

abbrev pub output_texts : PlanOutputValue → PlanOutput
output_texts output = record { books = output.books.items; settlement = output.settlement.items }

abbrev pub texts_routed : RouteOutput → SwitchTexts
texts_routed output =
    record {
      response = output.response.items;
      settlement = output.settlement.items;
      plans = map output_texts output.plans.items;
    }

-- a plan whose texts were read, as what they stand for
abbrev pub opened : OpenPlan → OnePlan
opened plan = record { plan = plan.sheet; period = plan.books.period; opening = plan.books.ledger }

-- what these inputs stand for, once they are read
abbrev pub switched_by : Stamp → List OpenPlan → Batch → Switched
switched_by stamp plans batch =
    record { stamp = stamp; plans = map opened plans; head = batch.head; details = batch.details }

abbrev pub switched_of : AcceptedPlans → Switched
switched_of accepted = switched_by accepted.stamp accepted.plans.items accepted.batch

-- a request whose header is rejected, and the reply to it
abbrev pub IsRejected : Body → Type 0
IsRejected (body.Rejected r) = Unit {0}
IsRejected (body.Heard h) = ⊥

abbrev pub rejected_outcome : Body → Outcome
rejected_outcome (body.Rejected r) = outcome.Rejected r
rejected_outcome (body.Heard h) = outcome.Heard []

abbrev pub rejected_reply : Transmission → Reply
rejected_reply t = record { echo = t.echo; outcome = rejected_outcome t.body }

-- what the places of a batch's records give a plan: the replies to them, its end books, and its settlement
module _ (lot : LotParts) (stamp : Stamp) (records : List Transmission) where
  abbrev pub finished_replies : OnePlan → List ℕ → List Reply
  finished_replies p places = replies_of lot p.plan records places p.opening

  abbrev pub finished_output : OnePlan → List ℕ → PlanOutput
  finished_output p places =
      record {
        books = books_text Three p.plan.figures.period (ledger_of lot p.plan records places p.opening);
        settlement = settlement_text lot stamp (finished_replies p places);
      }

-- the places of the records of a number
abbrev pub places_at : DealtRecords → ℕ → List ℕ
places_at dealt k = list_at (map (λ places. places.items) dealt.places.items) k

-- what the records of a plan give it
abbrev pub its_replies : DealtRecords → OpenPlan → List Reply
its_replies dealt plan =
    finished_replies dealt.lot dealt.stamp dealt.asked.items (opened plan) (places_at dealt plan.number)

abbrev pub its_output : DealtRecords → OpenPlan → PlanOutput
its_output dealt plan =
    finished_output dealt.lot dealt.stamp dealt.asked.items (opened plan) (places_at dealt plan.number)

-- both together
pub record Share : Type 0 where
  pub replies : List Reply
  pub output : PlanOutput

abbrev pub its_share : DealtRecords → OpenPlan → Share
its_share dealt plan = record { replies = its_replies dealt plan; output = its_output dealt plan }

abbrev pub share_of : PlanShare → Share
share_of share = record { replies = share.replies.items; output = output_texts share.output }

-- the number of the plan that each record names, as many as there are plans where it names none
abbrev pub numbers_of : Switched → List ℕ
numbers_of x = map (λ d. plan_named (doors_of x.plans) d.text) x.details

-- the plans have the numbers of their places, counted from 0
abbrev pub AreNumbered : List OpenPlan → Type 0
AreNumbered plans = map (λ plan. plan.number) plans ≡ range_with_len 0 (length plans)

-- the records are read and dealt out to the plans; the last number is that of those that name none
pub record IsDealt (x : Switched) (dealt : DealtRecords) : Type 0 where
  pub lot : dealt.lot ≡ x.head.lot
  pub stamp : dealt.stamp ≡ x.stamp
  pub asked : dealt.asked.items ≡ transmissions_routed (doors_of x.plans) x.details
  pub numbers : dealt.numbers.items ≡ numbers_of x
  pub long : length dealt.places.items ≡ suc (length x.plans)
  pub places : (k : ℕ) → k < suc (length x.plans)
      → places_at dealt k ≡ places_of (is_of (number_in (numbers_of x)) k) (length x.details)

-- the plans have replied to the records of a switch, and their outputs are made
pub record AreFinished (x : Switched) (finished : FinishedPlans) : Type 0 where
  pub replies : AreReplies (routed_reply x) (numbers_of x) (map (λ list. list.items) finished.lists.items)
  pub outputs : map output_texts finished.outputs.items ≡ map (plan_output x) x.plans
