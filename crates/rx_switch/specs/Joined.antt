-- Meaning: the response of several plans put together from the response files of their own runs (docs/FORMATS.md, "Several plans").
use Rattle.std.specs.Prelude.{◌≡◌, ◌≤◌, ℕ, ◌-◌, true, false, List, map, length, slice_index_or, Ok}
use Rattle.std.specs.List.{AllZip, list_any, range_with_len}
use Rattle.rx_batch.specs.Grammar.{IsFile}
use Rattle.rx_batch.specs.declared.detail.Detail.{Detail}
use Rattle.rx_batch.specs.declared.head.Head.{Head}
use Rattle.rx_d0_request.specs.Doors.{door_in, names_plan, routed, stray_reply}
use Rattle.rx_d0_values.specs.declared.reply.Reply.{Reply}
use Rattle.rx_fields.specs.declared.stamp.Stamp.{Stamp}
use Rattle.rx_response.specs.Response.{response_head, response_text}
use Rattle.rx_settle.specs.Settlement.{settlement_text}
use Rattle.rx_sheet.specs.SheetText.{sheet_of_text}
use Rattle.rx_show.specs.Found.{IsTextOf}
use Rattle.rx_show.specs.ResponseFile.{IsResponse}
use Rattle.rx_switch.specs.MayReply.{MayReply}
use Rattle.rx_switch.specs.Own.{own_places}
use Rattle.rx_switch.specs.Routed.{OnePlan, Switched, are_apart, door_of, doors_of, is_own, no_detail, request_at}

-- ---- what is given, and what it stands for

-- the texts of a plan's sheet and of the response file of its run of the whole batch
pub record PlanResponse : Type 0 where
  pub sheet : List ℕ
  pub response : List ℕ

pub record JoinGiven : Type 0 where
  pub plans : List PlanResponse
  pub batch : List ℕ

-- it stands for these plans and this batch, as a switch's texts do; no books are given, and none are looked at
pub record JoinStandsFor (g : JoinGiven) (x : Switched) : Type 0 where
  pub sheets : AllZip (λ (t : PlanResponse) (p : OnePlan). sheet_of_text t.sheet ≡ Ok p.plan) g.plans x.plans
  pub apart : are_apart (doors_of x.plans) ≡ true
  pub batch : IsFile g.batch x.head x.details

-- the bytes are a response file to the whole batch: they have its header as it is sent back at this stamp, and its references
-- in its order
pub record IsResponseTo (head : Head) (details : List Detail) (stamp : Stamp) (bytes : List ℕ) (own : List Detail) : Type 0 where
  pub file : IsResponse bytes (response_head head stamp) own
  pub references : map (λ d. d.reference) own ≡ map (λ d. d.reference) details

-- ---- what is joined

-- the detail at a place holds this reply, and it may be one to the record there
abbrev pub IsReplyAt : Switched → List Detail → ℕ → Reply → Type 0
IsReplyAt x own place r =
    IsTextOf (slice_index_or own (place - 1) no_detail).text r
    × MayReply x.head.lot place (routed (doors_of x.plans) (request_at x place)) r

-- the response file of a plan holds these replies to its records
pub record HoldsReplies (x : Switched) (reply : ℕ → Reply) (t : PlanResponse) (p : OnePlan) : Type 0 where
  pub own : List Detail
  pub file : IsResponseTo x.head x.details x.stamp t.response own
  pub each : (place : ℕ) → 1 ≤ place → place ≤ length x.details → is_own x (door_of p) place ≡ true
      → IsReplyAt x own place (reply place)

-- to the records of each plan the replies that its file holds, to the others the rejection of a stray
pub record AreJoined (g : JoinGiven) (x : Switched) (reply : ℕ → Reply) : Type 0 where
  pub own : AllZip (HoldsReplies x reply) g.plans x.plans
  pub stray : (place : ℕ) → 1 ≤ place → place ≤ length x.details
      → list_any (names_plan (door_in (request_at x place))) (doors_of x.plans) ≡ false
      → reply place ≡ stray_reply (doors_of x.plans) (request_at x place)

-- the response file, the settlement of all replies, and that of the replies to the records of each plan
pub record JoinTexts : Type 0 where
  pub response : List ℕ
  pub settlement : List ℕ
  pub settlements : List (List ℕ)

abbrev pub all_replies : Switched → (ℕ → Reply) → List Reply
all_replies x reply = map reply (range_with_len 1 (length x.details))

abbrev pub join_texts : Switched → (ℕ → Reply) → JoinTexts
join_texts x reply =
    record {
      response = response_text x.head x.stamp x.details (all_replies x reply);
      settlement = settlement_text x.head.lot x.stamp (all_replies x reply);
      settlements = map (λ (p : OnePlan). settlement_text x.head.lot x.stamp (map reply (own_places x (door_of p)))) x.plans;
    }

-- the inputs are accepted, and these are the texts of the replies that are joined
pub record IsJoined (g : JoinGiven) (texts : JoinTexts) : Type 0 where
  pub inputs : Switched
  pub some : 1 ≤ length g.plans
  pub accepted : JoinStandsFor g inputs
  pub reply : ℕ → Reply
  pub joined : AreJoined g inputs reply
  pub texts_are : texts ≡ join_texts inputs reply
