-- Meaning: what is found of the inputs of a run: the first fault of each that is given, as a run reads it.
use Rattle.std.specs.Prelude.{◌≡◌, Option, Some, None, option_copied}
use Rattle.rx_batch.specs.declared.fault.BatchFault.{BatchFault}
use Rattle.rx_books_text.specs.declared.fault.BooksFault.{BooksFault}
use Rattle.rx_sheet.specs.declared.fault.SheetFault.{SheetFault}
pub use Rattle.rx_check.specs.Inputs.{Files, batch_fault, books_fault, sheet_fault}
use Rattle.rx_check.specs.Warned.{AreWarnings}
use Rattle.rx_check.specs.declared.found.Found.{Found}
use Rattle.rx_check.specs.declared.found.InputFault.{InputFault}
use Rattle.rx_check.specs.declared.found.InputFault.TheVariants as fault

-- each fault found is the one with which the text is read, and the warnings are those of what is taken
pub record IsFound (files : Files) (found : Found) : Type 0 where
  pub sheet : found.sheet ≡ sheet_fault files.sheet.now
  pub books : found.books ≡ books_fault (option_copied files.books)
  pub batch : found.batch ≡ batch_fault (option_copied files.batch)
  pub warnings : AreWarnings files found.warnings

-- the first fault, in the order in which a run looks at its inputs
abbrev pub first_fault : Option SheetFault → Option BooksFault → Option BatchFault → Option InputFault
first_fault (Some f) books batch = Some (fault.Sheet f)
first_fault None (Some f) batch = Some (fault.Books f)
first_fault None None (Some f) = Some (fault.Batch f)
first_fault None None None = None

abbrev pub first_of : Found → Option InputFault
first_of found = first_fault found.sheet found.books found.batch
