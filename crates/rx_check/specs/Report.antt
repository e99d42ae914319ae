-- Text: what is printed of a check: a line for the first fault of each file, and then one for each warning.
use Rattle.std.specs.Prelude.{◌≡◌, ℕ, Bool, nat_lt, if◌then◌else◌, List, [], ◌∷◌, ◌++◌, codes, map, string_bytes}
use Rattle.std.specs.Prelude.{Option, Some, None, option_copied}
use Rattle.std.specs.Fmt.{decimal}
use Rattle.std.specs.List.{flat_map}
use Rattle.rx_batch.specs.declared.fault.BatchFault.{BatchFault}
use Rattle.rx_books_text.specs.declared.fault.BooksFault.{BooksFault}
use Rattle.std.specs.Borrow.{Bor}
use Rattle.rx_io.specs.declared.files.Inputs.{Inputs}
use Rattle.rx_fields.specs.Calendar.{date_text}
use Rattle.rx_fields.specs.Numbered.{Span}
use Rattle.rx_fields.specs.declared.limits.TheConstants.{MOST_LINES}
use Rattle.rx_sheet.specs.declared.fault.SheetFault.{SheetFault}
use Rattle.rx_diagnostics.specs.Lines.{line_text}
use Rattle.rx_diagnostics.specs.declared.words.Words.{Words}
use Rattle.rx_check.specs.Warned.{has_many_lines}
use Rattle.rx_check.specs.Wording.{AreBatchWords, AreBooksWords, AreSheetWords}
use Rattle.rx_check.specs.Inputs.{Files}
use Rattle.rx_check.specs.declared.found.Found.{Found}
use Rattle.rx_check.specs.declared.warnings.Warnings.{Warnings}

-- the names of the files of a run; that of one that isn't given doesn't matter
abbrev pub Names : Type 0
Names = Inputs (Bor (List ℕ)) (Bor (List ℕ)) (Bor (List ℕ))

-- ---- faults

-- one line of a file, with such words
abbrev pub TellsAt : (Words → Type 0) → List ℕ → List ℕ → Type 0
TellsAt Are file line = (words : Words) × (Are words × (line ≡ line_text file words ++ 10 ∷ []))

-- the line of a sheet's fault; nothing if there is none
abbrev pub TellsSheet : List ℕ → List ℕ → Option SheetFault → List ℕ → Type 0
TellsSheet file text None line = line ≡ []
TellsSheet file text (Some fault) line = TellsAt (AreSheetWords (Some text) fault) file line

-- the same of the books, where they are given
abbrev pub TellsBooks : List ℕ → Option (List ℕ) → Option BooksFault → List ℕ → Type 0
TellsBooks file (Some text) (Some fault) line = TellsAt (AreBooksWords (Some text) fault) file line
TellsBooks file text fault line = line ≡ []

-- and of the batch
abbrev pub TellsBatch : List ℕ → Option (List ℕ) → Option BatchFault → List ℕ → Type 0
TellsBatch file (Some text) (Some fault) line = TellsAt (AreBatchWords (Some text) fault) file line
TellsBatch file text fault line = line ≡ []

-- ---- warnings

-- FILE: warning: SAID
abbrev pub warning_line : List ℕ → List ℕ → List ℕ
warning_line file said = file ++ (codes ": warning: " ++ (said ++ 10 ∷ []))

abbrev pub line_if : Bool → List ℕ → List ℕ
line_if is_given line = if is_given then line else []

-- each key of the sheet that is ignored
abbrev pub ignored_text : List ℕ → List (List ℕ) → List ℕ
ignored_text sheet ignored = flat_map (warning_line sheet) ignored

-- the days of a period, as CCYYMMDD
abbrev pub period_words : Span → List ℕ
period_words period =
    codes "the books are of " ++ (date_text period.first ++ (codes " to " ++ (date_text period.last
    ++ codes ", another period than the sheet's: sums start again at 0, claims before it are rejected (81)")))

-- the books' period, which stands in their first line
abbrev pub period_text : List ℕ → Option Span → List ℕ
period_text books None = []
period_text books (Some period) = warning_line (books ++ codes ":1") (period_words period)

-- how many lines the books have, where these are many
unfoldable pub lines_text : List ℕ → ℕ → List ℕ
lines_text books lines =
    line_if (has_many_lines lines)
    (warning_line books (decimal lines ++ (codes " lines of at most " ++ (decimal MOST_LINES ++ codes " (age takes claims out)"))))

-- the batch is of another plan
unfoldable pub none_under_text : List ℕ → Bool → List ℕ
none_under_text batch none_under =
    line_if none_under
    (warning_line batch (codes "no record names the sheet's bin and pcn: each would be rejected"))

-- how many standing claims have a number of the batch, if there are any
unfoldable pub adjudicated_text : List ℕ → List ℕ → ℕ → List ℕ
adjudicated_text batch books count =
    line_if (nat_lt 0 count)
    (warning_line batch (decimal count ++ (codes " standing claims of " ++ (books
    ++ codes " have numbers of this batch: it was adjudicated already"))))

-- the end books could have too many lines
unfoldable pub may_pass_text : List ℕ → Bool → List ℕ
may_pass_text books may_pass =
    line_if may_pass
    (warning_line books (codes "with this batch the end books could have more than " ++ (decimal MOST_LINES
    ++ codes " lines, which no run reads")))

-- those of the sheet, of the books, and of the batch
abbrev pub warnings_text : Names → Warnings → List ℕ
warnings_text names w =
    ignored_text names.sheet.now (map string_bytes w.ignored.items)
    ++ (period_text names.books.now w.period ++ (lines_text names.books.now w.lines
    ++ (none_under_text names.batch.now w.none_under
    ++ (adjudicated_text names.batch.now names.books.now w.adjudicated ++ may_pass_text names.books.now w.may_pass))))

-- ---- the text

-- the lines of the faults of sheet, books and batch, and then the warnings
pub record IsReport (files : Files) (names : Names) (found : Found) (text : List ℕ) : Type 0 where
  pub sheet : List ℕ
  pub books : List ℕ
  pub batch : List ℕ
  pub sheet_is : TellsSheet names.sheet.now files.sheet.now found.sheet sheet
  pub books_are : TellsBooks names.books.now (option_copied files.books) found.books books
  pub batch_is : TellsBatch names.batch.now (option_copied files.batch) found.batch batch
  pub text_is : text ≡ sheet ++ (books ++ (batch ++ warnings_text names found.warnings))
