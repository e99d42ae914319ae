-- What a reader refuses, or has no memory for, is refused by the run and by `show`.
use Rattle.std.proofs.Common.{◌≡◌, ℕ, List, Ok, Err}
use Rattle.rx_batch.specs.Fault.{UnlessMemory as UnlessBatchMemory}
use Rattle.rx_batch.specs.Reading.{HasFault}
use Rattle.rx_batch.specs.declared.fault.BatchFault.{BatchFault}
use Rattle.rx_batch.specs.declared.fault.BatchFault.TheVariants as batch
use Rattle.rx_books_store.specs.BooksFile.{HasBooksFault, IsBooksText}
use Rattle.rx_books_text.specs.Fault.{UnlessMemory as UnlessBooksMemory}
use Rattle.rx_books_text.specs.declared.fault.BooksFault.{BooksFault}
use Rattle.rx_books_text.specs.declared.fault.BooksFault.TheVariants as books
use Rattle.rx_fields.specs.Numbered.{Span}
use Rattle.rx_fields.specs.declared.stamp.Stamp.{Stamp}
use Rattle.rx_ledger.specs.Ledger.{Ledger}
use Rattle.rx_ledger.specs.Plan.{Plan}
use Rattle.rx_sheet.specs.Fault.{UnlessMemory as UnlessSheetMemory}
use Rattle.rx_sheet.specs.SheetText.{sheet_of_text}
use Rattle.rx_sheet.specs.declared.fault.SheetFault.{SheetFault}
use Rattle.rx_sheet.specs.declared.fault.SheetFault.TheVariants as sheet
use Rattle.rx_switch.specs.Fault.{of_batch, of_books, of_sheet}
use Rattle.rx_switch.specs.Output.{Given, IsRefused, stamp_for}
use Rattle.rx_switch.specs.Output.IsRefused.{sheet as run_sheet, books as run_books, batch as run_batch, memory as run_memory}
use Rattle.rx_switch.specs.Shown.{IsNotShown}
use Rattle.rx_switch.specs.Shown.IsNotShown.{sheet as show_sheet, batch as show_batch, memory as show_memory}

-- ---- show

pub sheet_not_shown : (s b : List ℕ) (f : SheetFault) → UnlessSheetMemory f (sheet_of_text s ≡ Err f)
    → IsNotShown s b (of_sheet f)
sheet_not_shown s b sheet.NotToml e = show_sheet sheet.NotToml e
sheet_not_shown s b (sheet.Missing key) e = show_sheet (sheet.Missing key) e
sheet_not_shown s b (sheet.Wrong key) e = show_sheet (sheet.Wrong key) e
sheet_not_shown s b sheet.Memory e = show_memory

module _ (s b : List ℕ) (plan : Plan) (accepted : sheet_of_text s ≡ Ok plan) where
  pub batch_not_shown : (f : BatchFault) → UnlessBatchMemory f (HasFault b f) → IsNotShown s b (of_batch f)
  batch_not_shown (batch.Outside at) e = show_batch (batch.Outside at) plan accepted e
  batch_not_shown (batch.NoHeader at) e = show_batch (batch.NoHeader at) plan accepted e
  batch_not_shown (batch.HeaderShape at) e = show_batch (batch.HeaderShape at) plan accepted e
  batch_not_shown (batch.Unclosed at) e = show_batch (batch.Unclosed at) plan accepted e
  batch_not_shown (batch.RecordKind at) e = show_batch (batch.RecordKind at) plan accepted e
  batch_not_shown (batch.DetailShape at) e = show_batch (batch.DetailShape at) plan accepted e
  batch_not_shown (batch.TrailerShape at) e = show_batch (batch.TrailerShape at) plan accepted e
  batch_not_shown (batch.NoTrailer at) e = show_batch (batch.NoTrailer at) plan accepted e
  batch_not_shown (batch.NumberDiffers at) e = show_batch (batch.NumberDiffers at) plan accepted e
  batch_not_shown (batch.CountDiffers at) e = show_batch (batch.CountDiffers at) plan accepted e
  batch_not_shown (batch.AfterTrailer at) e = show_batch (batch.AfterTrailer at) plan accepted e
  batch_not_shown (batch.TooMuch at) e = show_batch (batch.TooMuch at) plan accepted e
  batch_not_shown batch.Memory e = show_memory

-- ---- the run

module _ (g : Given) (s : Stamp) (stamped : stamp_for g.workers g.stamp ≡ Ok s) where
  pub sheet_refused : (f : SheetFault) → UnlessSheetMemory f (sheet_of_text g.sheet ≡ Err f)
      → IsRefused g (of_sheet f)
  sheet_refused sheet.NotToml e = run_sheet s sheet.NotToml stamped e
  sheet_refused (sheet.Missing key) e = run_sheet s (sheet.Missing key) stamped e
  sheet_refused (sheet.Wrong key) e = run_sheet s (sheet.Wrong key) stamped e
  sheet_refused sheet.Memory e = run_memory s stamped

  module _ (plan : Plan) (planned : sheet_of_text g.sheet ≡ Ok plan) where
    pub books_refused : (f : BooksFault) → UnlessBooksMemory f (HasBooksFault g.books f) → IsRefused g (of_books f)
    books_refused books.Head e = run_books s plan books.Head stamped planned e
    books_refused (books.Line n) e = run_books s plan (books.Line n) stamped planned e
    books_refused (books.Order n) e = run_books s plan (books.Order n) stamped planned e
    books_refused (books.UnknownMember n) e = run_books s plan (books.UnknownMember n) stamped planned e
    books_refused (books.Totals n) e = run_books s plan (books.Totals n) stamped planned e
    books_refused books.TooMuch e = run_books s plan books.TooMuch stamped planned e
    books_refused books.Memory e = run_memory s stamped

    module _ (period : Span) (opening : Ledger) (opened : IsBooksText g.books period opening) where
      pub batch_refused : (f : BatchFault) → UnlessBatchMemory f (HasFault g.batch f) → IsRefused g (of_batch f)
      batch_refused (batch.Outside at) e = run_batch s plan period opening (batch.Outside at) stamped planned opened e
      batch_refused (batch.NoHeader at) e = run_batch s plan period opening (batch.NoHeader at) stamped planned opened e
      batch_refused (batch.HeaderShape at) e = run_batch s plan period opening (batch.HeaderShape at) stamped planned opened e
      batch_refused (batch.Unclosed at) e = run_batch s plan period opening (batch.Unclosed at) stamped planned opened e
      batch_refused (batch.RecordKind at) e = run_batch s plan period opening (batch.RecordKind at) stamped planned opened e
      batch_refused (batch.DetailShape at) e = run_batch s plan period opening (batch.DetailShape at) stamped planned opened e
      batch_refused (batch.TrailerShape at) e = run_batch s plan period opening (batch.TrailerShape at) stamped planned opened e
      batch_refused (batch.NoTrailer at) e = run_batch s plan period opening (batch.NoTrailer at) stamped planned opened e
      batch_refused (batch.NumberDiffers at) e = run_batch s plan period opening (batch.NumberDiffers at) stamped planned opened e
      batch_refused (batch.CountDiffers at) e = run_batch s plan period opening (batch.CountDiffers at) stamped planned opened e
      batch_refused (batch.AfterTrailer at) e = run_batch s plan period opening (batch.AfterTrailer at) stamped planned opened e
      batch_refused (batch.TooMuch at) e = run_batch s plan period opening (batch.TooMuch at) stamped planned opened e
      batch_refused batch.Memory e = run_memory s stamped
