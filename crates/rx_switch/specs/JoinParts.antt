-- Plumbing: what a job of joining gives, its output as texts, and what is picked from the response files.
use Rattle.std.specs.Prelude.{◌≡◌, ◌<◌, ◌⊎◌, ℕ, ◌-◌, List, [], length, map, slice_index_or}
use Rattle.std.specs.List.{AllZip}
use Rattle.rx_batch.specs.declared.batch.Batch.{Batch}
use Rattle.rx_batch.specs.declared.detail.Detail.{Detail}
use Rattle.rx_batch.specs.declared.fault.BatchFault.{BatchFault}
use Rattle.rx_batch.specs.declared.fault.BatchFault.TheVariants as batch
use Rattle.rx_batch.specs.declared.head.Head.{Head}
use Rattle.rx_d0_reply.specs.declared.fault.ReplyFault.{ReplyFault}
use Rattle.rx_d0_reply.specs.declared.fault.ReplyFault.TheVariants as reply
use Rattle.rx_d0_values.specs.declared.reply.Reply.{Reply}
use Rattle.rx_d0_values.specs.declared.transmission.Transmission.{Transmission}
use Rattle.rx_fields.specs.Numbered.{LotParts}
use Rattle.rx_fields.specs.declared.door.Door.{Door}
use Rattle.rx_fields.specs.declared.stamp.Stamp.{Stamp}
use Rattle.rx_schedule.specs.Footprints.{record_at}
use Rattle.rx_sheet.specs.declared.fault.SheetFault.{SheetFault}
use Rattle.rx_sheet.specs.declared.fault.SheetFault.TheVariants as sheet
use Rattle.rx_show.specs.Found.{IsTextOf}
use Rattle.rx_switch.specs.declared.dealt_records.DealtRecords.{DealtRecords}
use Rattle.rx_switch.specs.declared.join_fault.JoinFault.{JoinFault}
use Rattle.rx_switch.specs.declared.join_fault.JoinFault.TheVariants as fault
use Rattle.rx_switch.specs.declared.join_job.JoinJob.{JoinJob}
use Rattle.rx_switch.specs.declared.join_job.JoinOutput.{JoinOutput}
use Rattle.rx_switch.specs.declared.join_job.PlanResponse.{PlanResponse as PlanResponseValue}
use Rattle.rx_switch.specs.JoinRefused.{IsFirstStamp}
use Rattle.rx_switch.specs.Joined.{AreJoined, IsResponseTo, JoinGiven, JoinStandsFor, JoinTexts, PlanResponse, all_replies, join_texts}
use Rattle.rx_switch.specs.MayReply.{MayReply}
use Rattle.rx_switch.specs.RouteParts.{places_at}
use Rattle.rx_switch.specs.Routed.{OnePlan, Switched, doors_of, no_detail}

abbrev pub response_texts : PlanResponseValue → PlanResponse
response_texts p = record { sheet = p.sheet.now; response = p.response.now }

abbrev pub given_join : JoinJob → JoinGiven
given_join job = record { plans = map response_texts job.plans.now; batch = job.batch.now }

abbrev pub texts_joined : JoinOutput → JoinTexts
texts_joined output =
    record {
      response = output.response.items;
      settlement = output.settlement.items;
      settlements = map (λ text. text.items) output.settlements.items;
    }

-- the stamp that a response file has in its header
abbrev pub stamp_in : Head → Stamp
stamp_in head = record { date = head.lot.created; time = head.time }

-- a fault of a text; out of memory stands apart
abbrev pub of_text : (BatchFault → JoinFault) → BatchFault → JoinFault
of_text make batch.Memory = fault.Memory
of_text make f = make f

abbrev pub of_sheet : ℕ → SheetFault → JoinFault
of_sheet n sheet.Memory = fault.Memory
of_sheet n f = fault.Sheet n f

abbrev pub of_reply : ℕ → ℕ → ReplyFault → JoinFault
of_reply n place reply.Memory = fault.Memory
of_reply n place f = fault.OtherReply n place

-- what a join stands for, once its sheets, its batch and the first response file are read
abbrev pub join_inputs : Stamp → List OnePlan → Batch → Switched
join_inputs stamp plans batch = record { stamp = stamp; plans = plans; head = batch.head; details = batch.details }

-- the inputs of a join are these texts, doors and batch, and the stamp is the first response file's
pub record IsJoinOf (g : JoinGiven) (plans : List OnePlan) (texts : List PlanResponseValue) (doors : List Door) (stamp : Stamp)
    (batch : Batch) : Type 0 where
  pub stands : JoinStandsFor g (join_inputs stamp plans batch)
  pub texts_are : g.plans ≡ map response_texts texts
  pub doors_are : doors_of plans ≡ doors
  pub first : IsFirstStamp g batch.head stamp

-- the reply that the detail at a place holds may be one to the record there
pub record IsPicked (lot : LotParts) (asked : List Transmission) (own : List Detail) (place : ℕ) (r : Reply) : Type 0 where
  pub text : IsTextOf (slice_index_or own (place - 1) no_detail).text r
  pub may : MayReply lot place (record_at asked place) r

-- the detail holds no reply that the record there may get; out of memory may stand in the place of this
abbrev pub IsNoReply : ℕ → LotParts → List Transmission → List Detail → ℕ → JoinFault → Type 0
IsNoReply number lot asked own place f =
    (f ≡ fault.Memory) ⊎ ((f ≡ fault.OtherReply number place) × ((r : Reply) → IsPicked lot asked own place r → ⊥))

-- these replies are those to the records of a number, from its response file
pub record IsPickedFrom (batch : Batch) (dealt : DealtRecords) (k : ℕ) (response : List ℕ) (picked : List Reply) : Type 0 where
  pub own : List Detail
  pub file : IsResponseTo batch.head batch.details dealt.stamp response own
  pub each : AllZip (IsPicked dealt.lot dealt.asked.items own) (places_at dealt k) picked

abbrev pub nothing : PlanResponse
nothing = record { sheet = []; response = [] }

-- the same of each plan, with its number
pub record ArePicked (batch : Batch) (dealt : DealtRecords) (texts : List PlanResponse) (lists : List (List Reply)) : Type 0 where
  pub long : length lists ≡ length texts
  pub each : (k : ℕ) → k < length texts
      → IsPickedFrom batch dealt k (slice_index_or texts k nothing).response (slice_index_or lists k [])

-- these replies are joined, and these are the settlements of the plans
pub record JoinedReplies (g : JoinGiven) (x : Switched) (replies : List Reply) (settlements : List (List ℕ)) : Type 0 where
  pub reply : ℕ → Reply
  pub joined : AreJoined g x reply
  pub replies_are : replies ≡ all_replies x reply
  pub settlements_are : settlements ≡ (join_texts x reply).settlements
