-- What is found of the three inputs of a run says how the run looks at them.
use Rattle.std.proofs.Common.{◌≡◌, List, ℕ, Ok, Err, Result, Option, MatchOption, subst, refl}
use Rattle.std.specs.Result.{result_err}
use Rattle.std.specs.Option.{option_map}
use Rattle.rx_batch.specs.Reading.{batch_of}
use Rattle.rx_batch.specs.declared.batch.Batch.{Batch}
use Rattle.rx_batch.specs.declared.fault.BatchFault.{BatchFault}
use Rattle.rx_batch.proofs.Readings.{batch_is_file, fault_is_there}
use Rattle.rx_books_store.specs.BooksFile.{HasBooksFault, IsBooksText}
use Rattle.rx_books_store.specs.Figures.{books_of}
use Rattle.rx_books_store.specs.LedgerBooks.{LedgerBooks}
use Rattle.rx_books_store.proofs.BooksFile.{says}
use Rattle.rx_books_text.specs.declared.fault.BooksFault.{BooksFault}
use Rattle.rx_fields.specs.declared.stamp.Stamp.{Stamp}
use Rattle.rx_ledger.specs.Plan.{Plan}
use Rattle.rx_sheet.specs.SheetText.{sheet_of_text}
use Rattle.rx_sheet.specs.declared.fault.SheetFault.{SheetFault}
use Rattle.rx_switch.specs.Output.{Accepted, Given, IsRefused, StandFor, stamp_for}
use Rattle.rx_switch.specs.Output.IsRefused.{sheet as refused_sheet, books as refused_books, batch as refused_batch}
use Rattle.rx_check.specs.Found.{first_fault}
use Rattle.rx_check.specs.Refusals.{as_refusal}

-- what the reading of a text of books says of it
abbrev pub Says : List ℕ → Result LedgerBooks BooksFault → Type 0
Says text (Ok b) = IsBooksText text b.period b.ledger
Says text (Err f) = HasBooksFault text f

-- the first fault with which the inputs are read is the run's; if there is none the run accepts them
pub runs : (g : Given) (s : Stamp) → stamp_for g.workers g.stamp ≡ Ok s
    → (a : Result Plan SheetFault) → sheet_of_text g.sheet ≡ a
    → (b : Result LedgerBooks BooksFault) → books_of g.books ≡ b
    → (c : Result Batch BatchFault) → batch_of g.batch ≡ c
    → MatchOption (option_map as_refusal (first_fault (result_err a) (result_err b) (result_err c)))
    ((x : Accepted) × StandFor g x) (IsRefused g)
runs g s stamp (Err f) sheet b books c batch = refused_sheet s f stamp sheet
runs g s stamp (Ok plan) sheet (Err f) books c batch =
    refused_books s plan f stamp sheet (subst (Says g.books) books (says g.books))
runs g s stamp (Ok plan) sheet (Ok b) books (Err f) batch =
    refused_batch s plan b.period b.ledger f stamp sheet (subst (Says g.books) books (says g.books))
    (fault_is_there g.batch f batch)
runs g s stamp (Ok plan) sheet (Ok b) books (Ok c) batch = (
  record {
    stamp = s;
    plan = plan;
    period = b.period;
    opening = b.ledger;
    head = c.head;
    details = c.details;
  },
  record {
    stamp = stamp;
    sheet = sheet;
    books = subst (Says g.books) books (says g.books);
    batch = batch_is_file g.batch c batch;
  },
)

-- the same of faults that are those with which the inputs are read
pub found_runs : (g : Given) (s : Stamp) → stamp_for g.workers g.stamp ≡ Ok s
    → (a : Option SheetFault) (b : Option BooksFault) (c : Option BatchFault)
    → a ≡ result_err (sheet_of_text g.sheet) → b ≡ result_err (books_of g.books) → c ≡ result_err (batch_of g.batch)
    → MatchOption (option_map as_refusal (first_fault a b c)) ((x : Accepted) × StandFor g x) (IsRefused g)
found_runs g s stamp a b c sheet books batch =
    rw (sheet, books, batch)
    (runs g s stamp (sheet_of_text g.sheet) refl (books_of g.books) refl (batch_of g.batch) refl)
