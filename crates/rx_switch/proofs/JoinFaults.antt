-- What a join is refused for.
use Rattle.std.proofs.Common.{◌≡◌, ℕ, ◌+◌, ◌<◌, true, false, List, [], ◌∷◌, ◌++◌, Err, get_or, length, map, take, ap, sym, subst, ◌∙◌}
use Rattle.std.specs.Prelude.{Bool, IsTrue, ◌↔◌}
use Rattle.std.specs.List.{list_any, slice_get}
use Rattle.std.proofs.lemmas.List.{take-map}
use Rattle.rx_batch.specs.Fault.{UnlessMemory as UnlessBatchMemory}
use Rattle.rx_batch.specs.declared.fault.BatchFault.{BatchFault}
use Rattle.rx_batch.specs.declared.fault.BatchFault.TheVariants as batch
use Rattle.rx_batch.specs.declared.detail.Detail.{Detail}
use Rattle.rx_batch.specs.declared.head.Head.{Head}
use Rattle.rx_d0_request.specs.Doors.{names_plan}
use Rattle.rx_fields.specs.declared.door.Door.{Door}
use Rattle.rx_fields.specs.declared.stamp.Stamp.{Stamp}
use Rattle.rx_response.specs.Response.{response_head}
use Rattle.rx_sheet.specs.Fault.{UnlessMemory as UnlessSheetMemory}
use Rattle.rx_sheet.specs.SheetText.{sheet_of_text}
use Rattle.rx_sheet.specs.declared.fault.SheetFault.{SheetFault}
use Rattle.rx_sheet.specs.declared.fault.SheetFault.TheVariants as sheet
use Rattle.rx_show.specs.ResponseFile.{IsResponse}
use Rattle.rx_switch.specs.declared.join_fault.JoinFault.{JoinFault}
use Rattle.rx_switch.specs.declared.join_fault.JoinFault.TheVariants as fault
use Rattle.rx_switch.specs.declared.join_job.PlanResponse.{PlanResponse as PlanResponseValue}
use Rattle.rx_switch.specs.JoinParts.{of_sheet, of_text, response_texts, stamp_in}
use Rattle.rx_switch.specs.JoinRefused.{HasDoor, HaveDoors, IsNextPlan, IsNotJoined, IsOtherDetail}
use Rattle.rx_switch.specs.JoinRefused.IsNotJoined.{sheet as by_sheet, memory as by_memory}
use Rattle.rx_switch.specs.Joined.{JoinGiven, PlanResponse}
use Rattle.rx_switch.proofs.JoinLists.{mapped_at, zipped_more}
use Rattle.rx_switch.proofs.Opening.{apart-more}

-- ---- faults of texts

module _ (Q : JoinFault → Type 0) (make : BatchFault → JoinFault) (P : BatchFault → Type 0)
    (turn : (f : BatchFault) → P f → Q (make f)) (none : Q fault.Memory) where
  pub by_text : (f : BatchFault) → UnlessBatchMemory f (P f) → Q (of_text make f)
  by_text (batch.Outside at) e = turn (batch.Outside at) e
  by_text (batch.NoHeader at) e = turn (batch.NoHeader at) e
  by_text (batch.HeaderShape at) e = turn (batch.HeaderShape at) e
  by_text (batch.Unclosed at) e = turn (batch.Unclosed at) e
  by_text (batch.RecordKind at) e = turn (batch.RecordKind at) e
  by_text (batch.DetailShape at) e = turn (batch.DetailShape at) e
  by_text (batch.TrailerShape at) e = turn (batch.TrailerShape at) e
  by_text (batch.NoTrailer at) e = turn (batch.NoTrailer at) e
  by_text (batch.NumberDiffers at) e = turn (batch.NumberDiffers at) e
  by_text (batch.CountDiffers at) e = turn (batch.CountDiffers at) e
  by_text (batch.AfterTrailer at) e = turn (batch.AfterTrailer at) e
  by_text (batch.TooMuch at) e = turn (batch.TooMuch at) e
  by_text batch.Memory e = none

module _ (g : JoinGiven) (n : ℕ) (doors : List Door) (t : PlanResponse) (next : IsNextPlan g n doors t) where
  pub sheet_refused : (f : SheetFault) → UnlessSheetMemory f (sheet_of_text t.sheet ≡ Err f) → IsNotJoined g (of_sheet n f)
  sheet_refused sheet.NotToml e = by_sheet n doors t sheet.NotToml next e
  sheet_refused (sheet.Missing key) e = by_sheet n doors t (sheet.Missing key) next e
  sheet_refused (sheet.Wrong key) e = by_sheet n doors t (sheet.Wrong key) next e
  sheet_refused sheet.Memory e = by_memory

-- ---- doors

module _ (plans : List PlanResponseValue) (doors : List Door) (i : ℕ) (d : PlanResponseValue) (low : i < length plans)
    (have : HaveDoors (map response_texts (take i plans)) doors) where
  -- the next plan after those that have these doors
  pub is_next_plan : (g : JoinGiven) → g.plans ≡ map response_texts plans → length doors ≡ i
      → IsNextPlan g (length doors) doors (response_texts (get_or plans i d))
  is_next_plan g are count = rw count record {
    earlier = subst (λ (ts : List PlanResponse). HaveDoors ts doors)
        (sym (ap (take i) are ∙ take-map response_texts i plans)) have;
    next = ap (λ (ts : List PlanResponse). slice_get ts i) are ∙ mapped_at response_texts plans i d low;
  }

  -- with its door
  pub doors_next : (door : Door) → HasDoor (response_texts (get_or plans i d)) door
      → list_any (λ other. names_plan other door) doors ≡ false
      → HaveDoors (map response_texts (take (i + 1) plans)) (doors ++ door ∷ [])
  doors_next door has none = record {
    each = zipped_more HasDoor response_texts plans doors i d door low have.each has;
    apart = apart-more doors door have.apart none;
  }

-- ---- the header of another batch

pub other_head : (head sent : Head) → (sent ≡ response_head head (stamp_in sent) → ⊥) → (stamp : Stamp)
    → sent ≡ response_head head stamp → ⊥
other_head head sent other stamp e =
    let same : stamp_in sent ≡ stamp = ap stamp_in e in
    other (e ∙ ap (response_head head) (sym same))

-- what a test didn't find isn't there
pub not_true : {P : Type 0} (b : Bool) → b ≡ false → (IsTrue b ↔ P) → P → ⊥
not_true b isnt decides p = let is : b ≡ true = decides.1 p in absurd (let bad : true ≡ false = sym is ∙ isnt in cc)

pub detail_differs : (own its details asked : List Detail) (place : ℕ) → its ≡ own → asked ≡ details
    → IsOtherDetail its asked place → IsOtherDetail own details place
detail_differs own its details asked place same alike other =
    subst (λ (ds : List Detail). IsOtherDetail ds details place) same
    (subst (λ (ds : List Detail). IsOtherDetail its ds place) alike other)

-- the same file, by the text of its plan
pub file_is : (t : PlanResponse) (head : Head) (own : List Detail) (text : List ℕ) → t.response ≡ text → IsResponse text head own
    → IsResponse t.response head own
file_is t head own text is read = subst (λ (bytes : List ℕ). IsResponse bytes head own) (sym is) read
