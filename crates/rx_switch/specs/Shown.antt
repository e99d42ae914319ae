-- Meaning: what `show` prints, or refuses.
use Rattle.std.specs.Prelude.{◌≡◌, ℕ, List, Ok, Err}
use Rattle.rx_batch.specs.Grammar.{IsFile}
use Rattle.rx_batch.specs.Reading.{HasFault}
use Rattle.rx_batch.specs.declared.detail.Detail.{Detail}
use Rattle.rx_batch.specs.declared.fault.BatchFault.{BatchFault}
use Rattle.rx_batch.specs.declared.head.Head.{Head}
use Rattle.rx_ledger.specs.Plan.{Plan}
use Rattle.rx_sheet.specs.SheetText.{sheet_of_text}
use Rattle.rx_sheet.specs.declared.fault.SheetFault.{SheetFault}
use Rattle.rx_show.specs.Lines.{shown_lines}
use Rattle.rx_wave.specs.Decoding.{transmissions_of}
use Rattle.rx_switch.specs.declared.fault.SwitchFault.{SwitchFault}
use Rattle.rx_switch.specs.declared.fault.SwitchFault.TheVariants as fault

-- sheet and batch are accepted, and the text has the lines of the batch's transmissions at the plan's door
pub record IsShown (sheet batch text : List ℕ) : Type 0 where
  pub plan : Plan
  pub head : Head
  pub details : List Detail
  pub sheet_is : sheet_of_text sheet ≡ Ok plan
  pub batch_is : IsFile batch head details
  pub text_is : text ≡ shown_lines (transmissions_of plan.figures.door details)

-- the definitions refuse the sheet, or accept it and refuse the batch; out of memory may stand in place of any answer
pub data IsNotShown (sheet batch : List ℕ) : SwitchFault → Type 0 where
  sheet : (f : SheetFault) → sheet_of_text sheet ≡ Err f → IsNotShown sheet batch (fault.Sheet f)
  batch : (f : BatchFault) (plan : Plan) → sheet_of_text sheet ≡ Ok plan → HasFault batch f
      → IsNotShown sheet batch (fault.Batch f)
  memory : IsNotShown sheet batch fault.Memory
