-- Meaning: what refuses a switch: the first, in this order, of workers, stamp, each plan's sheet, door and books, and the batch.
use Rattle.std.specs.Prelude.{◌≡◌, ℕ, true, false, List, take, slice_get, Some, Ok, Err}
use Rattle.std.specs.List.{list_any}
use Rattle.rx_batch.specs.Reading.{HasFault as HasBatchFault}
use Rattle.rx_batch.specs.declared.fault.BatchFault.{BatchFault}
use Rattle.rx_books_store.specs.BooksFile.{HasBooksFault}
use Rattle.rx_books_text.specs.declared.fault.BooksFault.{BooksFault}
use Rattle.rx_d0_request.specs.Doors.{names_plan}
use Rattle.rx_fields.specs.declared.stamp.Stamp.{Stamp}
use Rattle.rx_ledger.specs.Plan.{Plan}
use Rattle.rx_sheet.specs.SheetText.{sheet_of_text}
use Rattle.rx_sheet.specs.declared.fault.SheetFault.{SheetFault}
use Rattle.rx_switch.specs.declared.fault.SwitchFault.{SwitchFault}
use Rattle.rx_switch.specs.declared.fault.SwitchFault.TheVariants as switch
use Rattle.rx_switch.specs.declared.route_fault.RouteFault.{RouteFault}
use Rattle.rx_switch.specs.declared.route_fault.RouteFault.TheVariants as fault
use Rattle.rx_switch.specs.Output.{stamp_for}
use Rattle.rx_switch.specs.Routed.{AreAccepted, OnePlan, PlanTexts, SwitchGiven, doors_of}

-- the plans before the nth are accepted, and these are the texts of the nth; plans are counted from 0
pub record IsNext (g : SwitchGiven) (n : ℕ) (plans : List OnePlan) (texts : PlanTexts) : Type 0 where
  pub stamp : Stamp
  pub stamped : stamp_for g.workers g.stamp ≡ Ok stamp
  pub earlier : AreAccepted (take n g.plans) plans
  pub next : slice_get g.plans n ≡ Some texts

-- the definitions refuse what is given. Out of memory may stand in the place of each of them but workers and stamp
pub data IsNotRouted (g : SwitchGiven) : RouteFault → Type 0 where
  words : (f : SwitchFault) → stamp_for g.workers g.stamp ≡ Err f → IsNotRouted g (fault.Switch f)
  sheet : (n : ℕ) (plans : List OnePlan) (texts : PlanTexts) (f : SheetFault) → IsNext g n plans texts
      → sheet_of_text texts.sheet ≡ Err f → IsNotRouted g (fault.Plan n (switch.Sheet f))
  door : (n earlier : ℕ) (plans : List OnePlan) (texts : PlanTexts) (plan : Plan) (p : OnePlan) → IsNext g n plans texts
      → sheet_of_text texts.sheet ≡ Ok plan → slice_get plans earlier ≡ Some p
      → names_plan p.plan.figures.door plan.figures.door ≡ true → IsNotRouted g (fault.SameDoor n earlier)
  books : (n : ℕ) (plans : List OnePlan) (texts : PlanTexts) (plan : Plan) (f : BooksFault) → IsNext g n plans texts
      → sheet_of_text texts.sheet ≡ Ok plan
      → list_any (λ door. names_plan door plan.figures.door) (doors_of plans) ≡ false
      → HasBooksFault texts.books f → IsNotRouted g (fault.Plan n (switch.Books f))
  batch : (s : Stamp) (plans : List OnePlan) (f : BatchFault) → stamp_for g.workers g.stamp ≡ Ok s
      → AreAccepted g.plans plans → HasBatchFault g.batch f → IsNotRouted g (fault.Switch (switch.Batch f))
  memory : (s : Stamp) → stamp_for g.workers g.stamp ≡ Ok s → IsNotRouted g (fault.Switch switch.Memory)
