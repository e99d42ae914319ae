-- Meaning: what refuses a join: the first fault, in this order: that there is no plan; plan by plan its sheet, and that an earlier one
-- has its door; the batch; then plan by plan its response file. Plans are counted from 0, places from 1.
use Rattle.std.specs.Prelude.{◌≡◌, ◌≤◌, ℕ, ◌-◌, true, List, [], length, map, take, Option, option_map, slice_get, Some, Ok, Err}
use Rattle.std.specs.List.{All, AllZip}
use Rattle.rx_batch.specs.Reading.{HasFault}
use Rattle.rx_batch.specs.declared.detail.Detail.{Detail}
use Rattle.rx_batch.specs.declared.fault.BatchFault.{BatchFault}
use Rattle.rx_batch.specs.declared.head.Head.{Head}
use Rattle.rx_d0_request.specs.Doors.{names_plan}
use Rattle.rx_d0_values.specs.declared.reply.Reply.{Reply}
use Rattle.rx_fields.specs.declared.door.Door.{Door}
use Rattle.rx_fields.specs.declared.stamp.Stamp.{Stamp}
use Rattle.rx_ledger.specs.Plan.{Plan}
use Rattle.rx_response.specs.Response.{response_head}
use Rattle.rx_sheet.specs.SheetText.{sheet_of_text}
use Rattle.rx_sheet.specs.declared.fault.SheetFault.{SheetFault}
use Rattle.rx_show.specs.ResponseFile.{IsResponse, as_batch}
use Rattle.rx_switch.specs.declared.join_fault.JoinFault.{JoinFault}
use Rattle.rx_switch.specs.declared.join_fault.JoinFault.TheVariants as fault
use Rattle.rx_switch.specs.Joined.{HoldsReplies, IsReplyAt, IsResponseTo, JoinGiven, JoinStandsFor, PlanResponse}
use Rattle.rx_switch.specs.Own.{own_places}
use Rattle.rx_switch.specs.Routed.{OnePlan, Switched, are_apart, door_of}

-- ---- sheets

-- the sheet of a plan is accepted, and has this door
abbrev pub HasDoor : PlanResponse → Door → Type 0
HasDoor t door = (plan : Plan) × (sheet_of_text t.sheet ≡ Ok plan) × (plan.figures.door ≡ door)

-- the sheets of these plans are accepted, and have these doors, no two of which are one
pub record HaveDoors (texts : List PlanResponse) (doors : List Door) : Type 0 where
  pub each : AllZip HasDoor texts doors
  pub apart : are_apart doors ≡ true

-- so have those before the nth, and these are the texts of the nth
pub record IsNextPlan (g : JoinGiven) (n : ℕ) (doors : List Door) (texts : PlanResponse) : Type 0 where
  pub earlier : HaveDoors (take n g.plans) doors
  pub next : slice_get g.plans n ≡ Some texts

-- ---- response files

-- the response file of a plan holds replies to its records
abbrev pub HasReplies : Switched → PlanResponse → OnePlan → Type 0
HasReplies x t p = (reply : ℕ → Reply) × HoldsReplies x reply t p

-- sheets and batch are accepted, the files before the nth hold replies, and these are the texts of the nth
pub record IsNextFile (g : JoinGiven) (x : Switched) (n : ℕ) (texts : PlanResponse) : Type 0 where
  pub accepted : JoinStandsFor g x
  pub earlier : AllZip (HasReplies x) (take n g.plans) (take n x.plans)
  pub next : slice_get g.plans n ≡ Some texts

-- the first plan's file has the header of a batch with this stamp
pub record IsFirstStamp (g : JoinGiven) (head : Head) (stamp : Stamp) : Type 0 where
  pub texts : PlanResponse
  pub first : slice_get g.plans 0 ≡ Some texts
  pub own : List Detail
  pub file : IsResponse texts.response (response_head head stamp) own

-- the reference of the detail at a place, if one is there
abbrev pub reference_at : List Detail → ℕ → Option (List ℕ)
reference_at details place = option_map (λ d. d.reference) (slice_get details (place - 1))

-- the first place where the references aren't the same, or only one of the two details is there
pub record IsOtherDetail (own details : List Detail) (place : ℕ) : Type 0 where
  pub from_one : 1 ≤ place
  pub before : map (λ d. d.reference) (take (place - 1) own) ≡ map (λ d. d.reference) (take (place - 1) details)
  pub other : reference_at own place ≡ reference_at details place → ⊥

abbrev pub HasReply : Switched → List Detail → ℕ → Type 0
HasReply x own place = (r : Reply) × IsReplyAt x own place r

-- the place of the first of a plan's records whose detail holds no reply that it may get
pub record IsOtherReply (x : Switched) (p : OnePlan) (own : List Detail) (place : ℕ) : Type 0 where
  pub number : ℕ
  pub is : slice_get (own_places x (door_of p)) number ≡ Some place
  pub before : All (HasReply x own) (take number (own_places x (door_of p)))
  pub none : HasReply x own place → ⊥

-- ---- the refusals

-- out of memory may stand in the place of any answer
pub data IsNotJoined (g : JoinGiven) : JoinFault → Type 0 where
  none : g.plans ≡ [] → IsNotJoined g fault.NoPlan
  sheet : (n : ℕ) (doors : List Door) (t : PlanResponse) (f : SheetFault) → IsNextPlan g n doors t → sheet_of_text t.sheet ≡ Err f
      → IsNotJoined g (fault.Sheet n f)
  door : (n earlier : ℕ) (doors : List Door) (t : PlanResponse) (door other : Door) → IsNextPlan g n doors t → HasDoor t door
      → slice_get doors earlier ≡ Some other → names_plan other door ≡ true → IsNotJoined g (fault.SameDoor n earlier)
  batch : (doors : List Door) (f : BatchFault) → 1 ≤ length g.plans → HaveDoors g.plans doors → HasFault g.batch f
      → IsNotJoined g (fault.Batch f)
  response : (n : ℕ) (x : Switched) (t : PlanResponse) (f : BatchFault) → IsNextFile g x n t → HasFault (as_batch t.response) f
      → IsNotJoined g (fault.Response n f)
  other_batch : (n : ℕ) (x : Switched) (t : PlanResponse) (sent : Head) (own : List Detail) → IsNextFile g x n t
      → IsResponse t.response sent own → ((stamp : Stamp) → sent ≡ response_head x.head stamp → ⊥)
      → IsNotJoined g (fault.OtherBatch n)
  other_stamp : (n : ℕ) (x : Switched) (t : PlanResponse) (stamp : Stamp) (own : List Detail) → IsNextFile g x n t
      → IsResponse t.response (response_head x.head stamp) own → IsFirstStamp g x.head x.stamp → (stamp ≡ x.stamp → ⊥)
      → IsNotJoined g (fault.OtherStamp n)
  other_detail : (n place : ℕ) (x : Switched) (t : PlanResponse) (own : List Detail) → IsNextFile g x n t
      → IsResponse t.response (response_head x.head x.stamp) own → IsOtherDetail own x.details place
      → IsNotJoined g (fault.OtherDetail n place)
  other_reply : (n place : ℕ) (x : Switched) (t : PlanResponse) (p : OnePlan) (own : List Detail) → IsNextFile g x n t
      → slice_get x.plans n ≡ Some p → IsResponseTo x.head x.details x.stamp t.response own → IsOtherReply x p own place
      → IsNotJoined g (fault.OtherReply n place)
  memory : IsNotJoined g fault.Memory
