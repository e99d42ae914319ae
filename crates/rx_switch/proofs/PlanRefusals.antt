-- What a plan's texts or the batch are refused for, a switch is refused for.
use Rattle.std.proofs.Common.{◌≡◌, ℕ, false, List, Ok, Err}
use Rattle.std.specs.List.{list_any}
use Rattle.rx_batch.specs.Fault.{UnlessMemory as UnlessBatchMemory}
use Rattle.rx_batch.specs.Reading.{HasFault}
use Rattle.rx_batch.specs.declared.fault.BatchFault.{BatchFault}
use Rattle.rx_batch.specs.declared.fault.BatchFault.TheVariants as batch
use Rattle.rx_books_store.specs.BooksFile.{HasBooksFault}
use Rattle.rx_books_text.specs.Fault.{UnlessMemory as UnlessBooksMemory}
use Rattle.rx_books_text.specs.declared.fault.BooksFault.{BooksFault}
use Rattle.rx_books_text.specs.declared.fault.BooksFault.TheVariants as books
use Rattle.rx_d0_request.specs.Doors.{names_plan}
use Rattle.rx_fields.specs.declared.stamp.Stamp.{Stamp}
use Rattle.rx_ledger.specs.Plan.{Plan}
use Rattle.rx_sheet.specs.Fault.{UnlessMemory as UnlessSheetMemory}
use Rattle.rx_sheet.specs.SheetText.{sheet_of_text}
use Rattle.rx_sheet.specs.declared.fault.SheetFault.{SheetFault}
use Rattle.rx_sheet.specs.declared.fault.SheetFault.TheVariants as sheet
use Rattle.rx_switch.specs.declared.route_fault.RouteFault.TheVariants as fault
use Rattle.rx_switch.specs.Fault.{of_batch, of_books, of_sheet}
use Rattle.rx_switch.specs.Output.{stamp_for}
use Rattle.rx_switch.specs.RouteFault.{of_plan}
use Rattle.rx_switch.specs.RouteRefused.{IsNext, IsNotRouted}
use Rattle.rx_switch.specs.RouteRefused.IsNotRouted.{sheet as by_sheet, books as by_books, batch as by_batch, memory as by_memory}
use Rattle.rx_switch.specs.Routed.{AreAccepted, OnePlan, PlanTexts, SwitchGiven, doors_of}

module _ (g : SwitchGiven) (n : ℕ) (plans : List OnePlan) (texts : PlanTexts) (next : IsNext g n plans texts) where
  pub plan_sheet_refused : (f : SheetFault) → UnlessSheetMemory f (sheet_of_text texts.sheet ≡ Err f)
      → IsNotRouted g (of_plan n (of_sheet f))
  plan_sheet_refused sheet.NotToml e = by_sheet n plans texts sheet.NotToml next e
  plan_sheet_refused (sheet.Missing key) e = by_sheet n plans texts (sheet.Missing key) next e
  plan_sheet_refused (sheet.Wrong key) e = by_sheet n plans texts (sheet.Wrong key) next e
  plan_sheet_refused sheet.Memory e = by_memory next.stamp next.stamped

  module _ (plan : Plan) (planned : sheet_of_text texts.sheet ≡ Ok plan)
      (alone : list_any (λ door. names_plan door plan.figures.door) (doors_of plans) ≡ false) where
    pub plan_books_refused : (f : BooksFault) → UnlessBooksMemory f (HasBooksFault texts.books f)
        → IsNotRouted g (of_plan n (of_books f))
    plan_books_refused books.Head e = by_books n plans texts plan books.Head next planned alone e
    plan_books_refused (books.Line k) e = by_books n plans texts plan (books.Line k) next planned alone e
    plan_books_refused (books.Order k) e = by_books n plans texts plan (books.Order k) next planned alone e
    plan_books_refused (books.UnknownMember k) e = by_books n plans texts plan (books.UnknownMember k) next planned alone e
    plan_books_refused (books.Totals k) e = by_books n plans texts plan (books.Totals k) next planned alone e
    plan_books_refused books.TooMuch e = by_books n plans texts plan books.TooMuch next planned alone e
    plan_books_refused books.Memory e = by_memory next.stamp next.stamped

module _ (g : SwitchGiven) (s : Stamp) (plans : List OnePlan) (stamped : stamp_for g.workers g.stamp ≡ Ok s)
    (accepted : AreAccepted g.plans plans) where
  pub switch_batch_refused : (f : BatchFault) → UnlessBatchMemory f (HasFault g.batch f)
      → IsNotRouted g (fault.Switch (of_batch f))
  switch_batch_refused (batch.Outside at) e = by_batch s plans (batch.Outside at) stamped accepted e
  switch_batch_refused (batch.NoHeader at) e = by_batch s plans (batch.NoHeader at) stamped accepted e
  switch_batch_refused (batch.HeaderShape at) e = by_batch s plans (batch.HeaderShape at) stamped accepted e
  switch_batch_refused (batch.Unclosed at) e = by_batch s plans (batch.Unclosed at) stamped accepted e
  switch_batch_refused (batch.RecordKind at) e = by_batch s plans (batch.RecordKind at) stamped accepted e
  switch_batch_refused (batch.DetailShape at) e = by_batch s plans (batch.DetailShape at) stamped accepted e
  switch_batch_refused (batch.TrailerShape at) e = by_batch s plans (batch.TrailerShape at) stamped accepted e
  switch_batch_refused (batch.NoTrailer at) e = by_batch s plans (batch.NoTrailer at) stamped accepted e
  switch_batch_refused (batch.NumberDiffers at) e = by_batch s plans (batch.NumberDiffers at) stamped accepted e
  switch_batch_refused (batch.CountDiffers at) e = by_batch s plans (batch.CountDiffers at) stamped accepted e
  switch_batch_refused (batch.AfterTrailer at) e = by_batch s plans (batch.AfterTrailer at) stamped accepted e
  switch_batch_refused (batch.TooMuch at) e = by_batch s plans (batch.TooMuch at) stamped accepted e
  switch_batch_refused batch.Memory e = by_memory s stamped
