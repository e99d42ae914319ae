-- Meaning: what the inputs of a run are read as: what each text stands for, where it is given and accepted, or else its fault.
use Rattle.std.specs.Prelude.{ℕ, List, Option, option_and_then}
use Rattle.std.specs.Borrow.{Bor}
use Rattle.std.specs.Result.{result_err, result_ok}
use Rattle.rx_batch.specs.Reading.{batch_of}
use Rattle.rx_batch.specs.declared.batch.Batch.{Batch}
use Rattle.rx_batch.specs.declared.fault.BatchFault.{BatchFault}
use Rattle.rx_books_store.specs.Figures.{books_of}
use Rattle.rx_books_store.specs.LedgerBooks.{LedgerBooks}
use Rattle.rx_books_text.specs.declared.fault.BooksFault.{BooksFault}
use Rattle.rx_io.specs.declared.files.Inputs.{Inputs}
use Rattle.rx_ledger.specs.Plan.{Plan}
use Rattle.rx_sheet.specs.SheetText.{sheet_of_text}
use Rattle.rx_sheet.specs.declared.fault.SheetFault.{SheetFault}

-- the texts of the inputs that are looked at
abbrev pub Files : Type 0
Files = Inputs (Bor (List ℕ)) (Option (Bor (List ℕ))) (Option (Bor (List ℕ)))

-- the plan of a sheet that is accepted
abbrev pub sheet_taken : List ℕ → Option Plan
sheet_taken text = result_ok (sheet_of_text text)

-- the fault with which a sheet is read, none where it is accepted
abbrev pub sheet_fault : List ℕ → Option SheetFault
sheet_fault text = result_err (sheet_of_text text)

-- the same of inputs that may not be given: the books
abbrev pub books_taken : Option (List ℕ) → Option LedgerBooks
books_taken given = option_and_then (λ text. result_ok (books_of text)) given

abbrev pub books_fault : Option (List ℕ) → Option BooksFault
books_fault given = option_and_then (λ text. result_err (books_of text)) given

-- and the batch
abbrev pub batch_taken : Option (List ℕ) → Option Batch
batch_taken given = option_and_then (λ text. result_ok (batch_of text)) given

abbrev pub batch_fault : Option (List ℕ) → Option BatchFault
batch_fault given = option_and_then (λ text. result_err (batch_of text)) given
