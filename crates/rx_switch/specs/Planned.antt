-- Meaning: what `plan` prints, or refuses.
use Rattle.std.specs.Prelude.{◌≡◌, ℕ, List, Ok, Err}
use Rattle.rx_fields.specs.Numbered.{Span}
use Rattle.rx_batch.specs.Grammar.{IsFile}
use Rattle.rx_batch.specs.Reading.{HasFault}
use Rattle.rx_batch.specs.declared.detail.Detail.{Detail}
use Rattle.rx_batch.specs.declared.fault.BatchFault.{BatchFault}
use Rattle.rx_batch.specs.declared.head.Head.{Head}
use Rattle.rx_books_store.specs.BooksFile.{HasBooksFault, IsBooksText}
use Rattle.rx_books_text.specs.declared.fault.BooksFault.{BooksFault}
use Rattle.rx_d0_values.specs.declared.transmission.Transmission.{Transmission}
use Rattle.rx_ledger.specs.Ledger.{Ledger}
use Rattle.rx_ledger.specs.Plan.{Plan}
use Rattle.rx_schedule.specs.Footprints.{footprints_of}
use Rattle.rx_schedule.specs.Waves.{AreWaves, IsChain}
use Rattle.rx_sheet.specs.SheetText.{sheet_of_text}
use Rattle.rx_sheet.specs.declared.fault.SheetFault.{SheetFault}
use Rattle.rx_show.specs.PlanLines.{plan_lines}
use Rattle.rx_wave.specs.Decoding.{transmissions_of}
use Rattle.rx_switch.specs.declared.fault.SwitchFault.{SwitchFault}
use Rattle.rx_switch.specs.declared.fault.SwitchFault.TheVariants as fault

-- the text has the waves of the records over the opening ledger, their number, and the chain
pub record IsPlanOf (opening : Ledger) (records : List Transmission) (text : List ℕ) : Type 0 where
  pub numbers : List ℕ
  pub count : ℕ
  pub chain : List ℕ
  pub waves_are : AreWaves (footprints_of opening records) numbers
  pub chain_is : IsChain (footprints_of opening records) numbers count chain
  pub text_is : text ≡ plan_lines numbers count chain

-- sheet, books and batch are accepted, and the text is the plan of the batch's transmissions at the sheet's door
pub record IsPlanned (sheet books batch text : List ℕ) : Type 0 where
  pub plan : Plan
  pub period : Span
  pub opening : Ledger
  pub head : Head
  pub details : List Detail
  pub sheet_is : sheet_of_text sheet ≡ Ok plan
  pub books_are : IsBooksText books period opening
  pub batch_is : IsFile batch head details
  pub planned : IsPlanOf opening (transmissions_of plan.figures.door details) text

-- the definitions refuse the first, in this order, of sheet, books and batch; out of memory may stand in place of any answer
pub data IsNotPlanned (sheet books batch : List ℕ) : SwitchFault → Type 0 where
  sheet : (f : SheetFault) → sheet_of_text sheet ≡ Err f → IsNotPlanned sheet books batch (fault.Sheet f)
  books : (f : BooksFault) (plan : Plan) → sheet_of_text sheet ≡ Ok plan → HasBooksFault books f
      → IsNotPlanned sheet books batch (fault.Books f)
  batch : (f : BatchFault) (plan : Plan) (period : Span) (opening : Ledger) → sheet_of_text sheet ≡ Ok plan
      → IsBooksText books period opening → HasFault batch f → IsNotPlanned sheet books batch (fault.Batch f)
  memory : IsNotPlanned sheet books batch fault.Memory
