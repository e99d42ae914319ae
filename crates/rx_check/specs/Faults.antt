-- Meaning: the line of a refusal: it begins at the place of its fault in the input that it is of, and says what is there.
use Rattle.std.specs.Prelude.{◌≡◌, ℕ, not, ◌||◌, ◌==◌, if◌then◌else◌, List, ◌++◌, codes, length, take, Option, Some, None}
use Rattle.std.specs.Prelude.{is_err, option_copied}
use Rattle.std.specs.Fmt.{decimal}
use Rattle.rx_batch.specs.declared.fault.BatchFault.{BatchFault}
use Rattle.rx_fields.specs.Calendar.{date_of}
use Rattle.rx_fields.specs.declared.limits.TheConstants.{MOST_WORKERS}
use Rattle.rx_sheet.specs.declared.fault.SheetFault.{SheetFault}
use Rattle.rx_switch.specs.declared.fault.SwitchFault.{SwitchFault}
use Rattle.rx_switch.specs.declared.fault.SwitchFault.TheVariants as fault
use Rattle.rx_diagnostics.specs.declared.place.Place.{Place}
use Rattle.rx_diagnostics.specs.declared.place.Place.TheVariants as place
use Rattle.rx_check.specs.Wording.{AreBatchWords, AreBooksWords, AreSheetWords}
use Rattle.rx_check.specs.declared.fault_lines.RunInputs.{RunInputs}
use Rattle.rx_diagnostics.specs.Lines.{BeginsAt, line_text}
use Rattle.rx_diagnostics.specs.Places.{batch_place, books_place, unread_batch_place}
use Rattle.rx_diagnostics.specs.Quoting.{quoted_text}
use Rattle.rx_diagnostics.specs.SheetPlaces.{IsSheetPlace}
use Rattle.rx_diagnostics.specs.declared.words.Words.{Words}
use Rattle.rx_text.specs.Bytes.{all_digits}

-- the place of a batch fault, with its record where the file could be read again
abbrev pub batch_place_in : Option (List ℕ) → BatchFault → Place
batch_place_in None f = unread_batch_place f
batch_place_in (Some text) f = batch_place text f

-- the place of a sheet's fault; the whole sheet where it couldn't be read again
abbrev pub IsSheetPlaceIn : Option (List ℕ) → SheetFault → Place → Type 0
IsSheetPlaceIn None f at = at ≡ place.Whole
IsSheetPlaceIn (Some text) f at = IsSheetPlace text f at

-- the line begins at the fault's place in its file; a fault of no file names an option, or what there was too little of
abbrev pub IsFaultLine : RunInputs → SwitchFault → List ℕ → Type 0
IsFaultLine run (fault.Sheet f) line =
    (at : Place) × IsSheetPlaceIn (option_copied run.inputs.sheet.text) f at × BeginsAt run.inputs.sheet.name.now at line
IsFaultLine run (fault.Books f) line = BeginsAt run.inputs.books.name.now (books_place f) line
IsFaultLine run (fault.Batch f) line =
    BeginsAt run.inputs.batch.name.now (batch_place_in (option_copied run.inputs.batch.text) f) line
IsFaultLine run other line = Unit {0}

-- ---- what the line says

-- a number of workers out of range
abbrev pub workers_text : ℕ → List ℕ
workers_text n = codes "--workers " ++ (decimal n ++ (codes ": expected 1 to " ++ decimal MOST_WORKERS))

-- what is wrong with a stamp: how many digits it has, its date, or else its time
abbrev pub stamp_fault : List ℕ → List ℕ
stamp_fault stamp =
    if not (length stamp == 12) || not (all_digits stamp) then codes "expected 12 digits CCYYMMDDHHMM, e.g. 202603020600"
    else (if is_err (date_of (take 8 stamp)) then codes "its first 8 digits aren't a date"
    else codes "its last 4 digits aren't a time from 0000 to 2359")

abbrev pub stamp_text : List ℕ → List ℕ
stamp_text stamp = codes "--stamp " ++ (quoted_text stamp ++ (codes ": " ++ stamp_fault stamp))

-- the line has such words of a file
abbrev pub IsLineOf : (Words → Type 0) → List ℕ → List ℕ → Type 0
IsLineOf Are file line = (words : Words) × (Are words × (line ≡ line_text file words))

-- the line has the words of its fault
abbrev pub IsFaultText : RunInputs → SwitchFault → List ℕ → Type 0
IsFaultText run fault.Workers line = line ≡ workers_text run.workers
IsFaultText run fault.Stamp line = line ≡ stamp_text run.stamp.now
IsFaultText run (fault.Sheet f) line =
    IsLineOf (AreSheetWords (option_copied run.inputs.sheet.text) f) run.inputs.sheet.name.now line
IsFaultText run (fault.Books f) line =
    IsLineOf (AreBooksWords (option_copied run.inputs.books.text) f) run.inputs.books.name.now line
IsFaultText run (fault.Batch f) line =
    IsLineOf (AreBatchWords (option_copied run.inputs.batch.text) f) run.inputs.batch.name.now line
IsFaultText run fault.Memory line = line ≡ codes "out of memory"
IsFaultText run fault.Thread line = line ≡ codes "a thread could not be started"
