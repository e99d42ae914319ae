-- Meaning: what a run takes and an operator would hardly mean.
use Rattle.std.specs.Prelude.{◌≡◌, ◌≢◌, ℕ, ◌+◌, ◌/◌, Bool, true, false, not, ◌&&◌, ◌==◌, nat_eq, nat_le, nat_lt}
use Rattle.std.specs.Prelude.{List, take, length, map, sum}
use Rattle.std.specs.Prelude.{count_by, slice_range, Option, Some, None, MatchOption, is_none, option_copied, string_bytes}
use Rattle.std.specs.Cmp.Lexicographic.{pointwise}
use Rattle.std.specs.List.{list_any}
use Rattle.rx_batch.specs.declared.batch.Batch.{Batch}
use Rattle.rx_batch.specs.declared.detail.Detail.{Detail}
use Rattle.rx_books_store.specs.LedgerBooks.{LedgerBooks}
use Rattle.rx_d0_request.specs.declared.header.TheConstants.{BIN_LENGTH, PCN_AT, PCN_LENGTH}
use Rattle.rx_fields.specs.Numbered.{Span}
use Rattle.rx_fields.specs.declared.door.Door.{Door}
use Rattle.rx_fields.specs.declared.limits.TheConstants.{MOST_LINES, NUMBERS_OF_A_BATCH}
use Rattle.rx_ledger.specs.Plan.{Plan}
use Rattle.rx_ledger.specs.declared.row.Row.{Row}
use Rattle.rx_text.specs.declared.separators.TheConstants.{GROUP}
use Rattle.rx_check.specs.Ignored.{ignored_lines}
use Rattle.rx_check.specs.Inputs.{batch_taken, books_taken, sheet_taken}
use Rattle.rx_check.specs.Inputs.{Files}
use Rattle.rx_check.specs.declared.warnings.TheConstants.{MANY_LINES}
use Rattle.rx_check.specs.declared.warnings.Warnings.{Warnings}

-- how many line feeds a text has
abbrev pub feeds : List ℕ → ℕ
feeds text = count_by (λ b. b == 10) text

-- a record names the plan's BIN and its processor control number, each at its place in the header of a request
abbrev pub is_under : Door → Detail → Bool
is_under door d =
    nat_le (PCN_AT + PCN_LENGTH) (length d.text) && pointwise nat_eq (take BIN_LENGTH d.text) door.bin
    && pointwise nat_eq (slice_range d.text PCN_AT (PCN_AT + PCN_LENGTH)) door.pcn

-- there are records, and none is under the plan's BIN and processor control number
abbrev pub has_none_under : Door → List Detail → Bool
has_none_under door details = not (length details == 0) && not (list_any (is_under door) details)

-- a standing claim has a number of this batch: the first seven of its fifteen digits are the batch number
abbrev pub is_of_batch : ℕ → Row → Bool
is_of_batch number row = row.number / NUMBERS_OF_A_BATCH == number

abbrev pub adjudicated : ℕ → List Row → ℕ
adjudicated number rows = count_by (is_of_batch number) rows

-- a record can add as many claims as it has groups, each of which a GS begins
abbrev pub groups : Detail → ℕ
groups d = count_by (λ b. b == GROUP) d.text

-- books of this many lines could have more than `MOST_LINES` after these records
abbrev pub may_pass : ℕ → List Detail → Bool
may_pass lines details = nat_lt MOST_LINES (lines + sum (map groups details))

-- books of this many lines are near their limit
abbrev pub has_many_lines : ℕ → Bool
has_many_lines lines = nat_lt MANY_LINES lines

-- none of the six warnings is given
abbrev pub warns_of_nothing : Warnings → Bool
warns_of_nothing w =
    length w.ignored.items == 0 && is_none w.period && not w.none_under && w.adjudicated == 0 && not (has_many_lines w.lines)
    && not w.may_pass

-- the books' period, where it is another than the sheet's
abbrev pub IsOtherPeriod : Plan → Option LedgerBooks → Option Span → Type 0
IsOtherPeriod plan None warned = warned ≡ None
IsOtherPeriod plan (Some books) warned =
    MatchOption warned (plan.figures.period ≡ books.period)
    (λ period. (plan.figures.period ≢ books.period) × (period ≡ books.period))

-- how many lines the books have
abbrev pub lines_in : Option (List ℕ) → Option LedgerBooks → ℕ
lines_in (Some text) (Some books) = feeds text
lines_in text books = 0

-- the batch is of another plan
abbrev pub none_under_in : Plan → Option Batch → Bool
none_under_in plan None = false
none_under_in plan (Some batch) = has_none_under plan.figures.door batch.details

-- how many standing claims of the books have a number of the batch
abbrev pub adjudicated_in : Option LedgerBooks → Option Batch → ℕ
adjudicated_in (Some books) (Some batch) = adjudicated batch.head.lot.number books.ledger.rows
adjudicated_in books batch = 0

-- the end books could have too many lines
abbrev pub may_pass_in : ℕ → Option LedgerBooks → Option Batch → Bool
may_pass_in lines (Some books) (Some batch) = may_pass lines batch.details
may_pass_in lines books batch = false

-- the warnings given a plan: of its sheet, and of the books and the batch that are taken
pub record AreWarningsBeside (files : Files) (plan : Plan) (books : Option LedgerBooks) (batch : Option Batch) (w : Warnings) : Type 0 where
  pub ignored : map string_bytes w.ignored.items ≡ ignored_lines files.sheet.now
  pub period : IsOtherPeriod plan books w.period
  pub lines : w.lines ≡ lines_in (option_copied files.books) books
  pub none_under : w.none_under ≡ none_under_in plan batch
  pub adjudicated : w.adjudicated ≡ adjudicated_in books batch
  pub may_pass : w.may_pass ≡ may_pass_in (lines_in (option_copied files.books) books) books batch

-- of a sheet with a fault there are no warnings
abbrev pub AreWarningsOf : Files → Option Plan → Option LedgerBooks → Option Batch → Warnings → Type 0
AreWarningsOf files None books batch w = (warns_of_nothing w ≡ true) × (w.lines ≡ 0)
AreWarningsOf files (Some plan) books batch w = AreWarningsBeside files plan books batch w

-- the warnings are those of what is taken of the inputs
abbrev pub AreWarnings : Files → Warnings → Type 0
AreWarnings files w =
    AreWarningsOf files (sheet_taken files.sheet.now) (books_taken (option_copied files.books))
    (batch_taken (option_copied files.batch)) w
