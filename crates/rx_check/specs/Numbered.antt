-- Meaning: the fault inside a refusal has these numbers: its own, and that of its key, its line or its byte, 0 if there is none;
-- and numbers that no refusal has.
use Rattle.std.specs.Prelude.{◌≡◌, ℕ, Bool, true, false, not, [], ◌∷◌}
use Rattle.std.specs.Option.{option_map, unwrap_or}
use Rattle.rx_batch.specs.Fault.{code_of as batch_code, place_of, wants_memory as batch_memory}
use Rattle.rx_batch.specs.declared.fault.BatchFault.{BatchFault}
use Rattle.rx_books_text.specs.Fault.{code_of as books_code, line_of_fault, wants_memory as books_memory}
use Rattle.rx_books_text.specs.declared.fault.BooksFault.{BooksFault}
use Rattle.rx_ledger.specs.Keys.{sheet_key_number}
use Rattle.rx_ledger.specs.declared.sheet_key.SheetKey.{SheetKey}
use Rattle.rx_sheet.specs.Fault.{code_of as sheet_code, key_of, wants_memory as sheet_memory}
use Rattle.rx_sheet.specs.declared.fault.SheetFault.{SheetFault}
use Rattle.rx_switch.specs.Told.{refused}
use Rattle.rx_switch.specs.declared.fault.SwitchFault.{SwitchFault}
use Rattle.rx_switch.specs.declared.fault.SwitchFault.TheVariants as fault

abbrev pub IsSheetNumbered : ℕ → ℕ → SheetFault → Type 0
IsSheetNumbered within place f = (sheet_code f ≡ within) × (unwrap_or (option_map sheet_key_number (key_of f)) 0 ≡ place)

abbrev pub IsBooksNumbered : ℕ → ℕ → BooksFault → Type 0
IsBooksNumbered within place f = (books_code f ≡ within) × (unwrap_or (line_of_fault f) 0 ≡ place)

abbrev pub IsBatchNumbered : ℕ → ℕ → BatchFault → Type 0
IsBatchNumbered within place f = (batch_code f ≡ within) × (unwrap_or (place_of f) 0 ≡ place)

-- ---- numbers of none

abbrev pub NoKeyNumbered : ℕ → Type 0
NoKeyNumbered number = (key : SheetKey) → ¬ (sheet_key_number key ≡ number)

-- no fault but out of memory has these numbers
abbrev pub NoSheetNumbered : ℕ → ℕ → Type 0
NoSheetNumbered within place = (f : SheetFault) → sheet_memory f ≡ false → ¬ IsSheetNumbered within place f

abbrev pub NoBooksNumbered : ℕ → ℕ → Type 0
NoBooksNumbered within place = (f : BooksFault) → books_memory f ≡ false → ¬ IsBooksNumbered within place f

abbrev pub NoBatchNumbered : ℕ → ℕ → Type 0
NoBatchNumbered within place = (f : BatchFault) → batch_memory f ≡ false → ¬ IsBatchNumbered within place f

-- a run reports the refusal: out of memory is one of its own, and never that of an input
abbrev pub is_reported : SwitchFault → Bool
is_reported (fault.Sheet f) = not (sheet_memory f)
is_reported (fault.Books f) = not (books_memory f)
is_reported (fault.Batch f) = not (batch_memory f)
is_reported other = true

-- no refusal that a run reports has these numbers
abbrev pub NoneNumbered : ℕ → ℕ → ℕ → Type 0
NoneNumbered kind within place =
    (f : SwitchFault) → is_reported f ≡ true → ¬ ((refused f).numbers ≡ kind ∷ within ∷ place ∷ [])
