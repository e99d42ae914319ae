-- Meaning: the refusal of the first fault of the inputs, and the run that is given these inputs.
use Rattle.std.specs.Prelude.{◌≡◌, ◌⊎◌, ℕ, List, Ok, Option, Some, None, IfSome, option_copied}
use Rattle.std.specs.Option.{option_map}
use Rattle.rx_batch.specs.Grammar.{IsFile}
use Rattle.rx_batch.specs.declared.detail.Detail.{Detail}
use Rattle.rx_batch.specs.declared.head.Head.{Head}
use Rattle.rx_books_store.specs.BooksFile.{IsBooksText}
use Rattle.rx_books_text.specs.declared.fault.BooksFault.{BooksFault}
use Rattle.rx_check.specs.Found.{first_of}
use Rattle.rx_check.specs.Inputs.{Files}
use Rattle.rx_check.specs.declared.found.Found.{Found}
use Rattle.rx_check.specs.declared.found.InputFault.{InputFault}
use Rattle.rx_check.specs.declared.found.InputFault.TheVariants as input
use Rattle.rx_fields.specs.Numbered.{Span}
use Rattle.rx_ledger.specs.Ledger.{Ledger}
use Rattle.rx_ledger.specs.Plan.{Plan}
use Rattle.rx_sheet.specs.SheetText.{sheet_of_text}
use Rattle.rx_switch.specs.Output.{Given, IsRefused}
use Rattle.rx_switch.specs.declared.fault.SwitchFault.{SwitchFault}
use Rattle.rx_switch.specs.declared.fault.SwitchFault.TheVariants as fault

-- a run is given these inputs, all three
pub record AreOf (files : Files) (g : Given) : Type 0 where
  pub sheet : files.sheet.now ≡ g.sheet
  pub books : option_copied files.books ≡ Some g.books
  pub batch : option_copied files.batch ≡ Some g.batch

-- a run is given these inputs, and others in place of those that are left out
pub record AreAmong (files : Files) (g : Given) : Type 0 where
  pub sheet : files.sheet.now ≡ g.sheet
  pub books : IfSome (option_copied files.books) (λ text. text ≡ g.books)
  pub batch : IfSome (option_copied files.batch) (λ text. text ≡ g.batch)

-- each input of the run that is looked at is accepted
pub record AreAccepted (books batch : Option (List ℕ)) (g : Given) : Type 0 where
  pub sheet : (plan : Plan) × (sheet_of_text g.sheet ≡ Ok plan)
  pub books_are : IfSome books (λ _. (period : Span) × (opening : Ledger) × IsBooksText g.books period opening)
  pub batch_is : IfSome batch (λ _. (head : Head) × (details : List Detail) × IsFile g.batch head details)

-- the run is refused so; books that weren't looked at may be refused before the batch file is
abbrev pub IsRefusedUnless : Option (List ℕ) → Given → SwitchFault → Type 0
IsRefusedUnless (Some books) g f = IsRefused g f
IsRefusedUnless None g f = IsRefused g f ⊎ ((e : BooksFault) × IsRefused g (fault.Books e))

abbrev pub as_refusal : InputFault → SwitchFault
as_refusal (input.Sheet f) = fault.Sheet f
as_refusal (input.Books f) = fault.Books f
as_refusal (input.Batch f) = fault.Batch f

abbrev pub refusal_of : Found → Option SwitchFault
refusal_of found = option_map as_refusal (first_of found)
