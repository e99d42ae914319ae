-- What a reader refuses, or has no memory for, is refused by `plan`.
use Rattle.std.proofs.Common.{◌≡◌, ℕ, List, Ok, Err}
use Rattle.rx_batch.specs.Fault.{UnlessMemory as UnlessBatchMemory}
use Rattle.rx_batch.specs.Reading.{HasFault}
use Rattle.rx_batch.specs.declared.fault.BatchFault.{BatchFault}
use Rattle.rx_batch.specs.declared.fault.BatchFault.TheVariants as batch
use Rattle.rx_books_store.specs.BooksFile.{HasBooksFault, IsBooksText}
use Rattle.rx_books_text.specs.Fault.{UnlessMemory as UnlessBooksMemory}
use Rattle.rx_books_text.specs.declared.fault.BooksFault.{BooksFault}
use Rattle.rx_books_text.specs.declared.fault.BooksFault.TheVariants as books
use Rattle.rx_fields.specs.Numbered.{Span}
use Rattle.rx_ledger.specs.Ledger.{Ledger}
use Rattle.rx_ledger.specs.Plan.{Plan}
use Rattle.rx_sheet.specs.Fault.{UnlessMemory as UnlessSheetMemory}
use Rattle.rx_sheet.specs.SheetText.{sheet_of_text}
use Rattle.rx_sheet.specs.declared.fault.SheetFault.{SheetFault}
use Rattle.rx_sheet.specs.declared.fault.SheetFault.TheVariants as sheet
use Rattle.rx_switch.specs.Fault.{of_batch, of_books, of_sheet}
use Rattle.rx_switch.specs.Planned.{IsNotPlanned}
use Rattle.rx_switch.specs.Planned.IsNotPlanned.{sheet as no_sheet, books as no_books, batch as no_batch, memory as no_memory}

module _ (s k b : List ℕ) where
  pub sheet_not_planned : (f : SheetFault) → UnlessSheetMemory f (sheet_of_text s ≡ Err f) → IsNotPlanned s k b (of_sheet f)
  sheet_not_planned sheet.NotToml e = no_sheet sheet.NotToml e
  sheet_not_planned (sheet.Missing key) e = no_sheet (sheet.Missing key) e
  sheet_not_planned (sheet.Wrong key) e = no_sheet (sheet.Wrong key) e
  sheet_not_planned sheet.Memory e = no_memory

  module _ (plan : Plan) (accepted : sheet_of_text s ≡ Ok plan) where
    pub books_not_planned : (f : BooksFault) → UnlessBooksMemory f (HasBooksFault k f) → IsNotPlanned s k b (of_books f)
    books_not_planned books.Head e = no_books books.Head plan accepted e
    books_not_planned (books.Line n) e = no_books (books.Line n) plan accepted e
    books_not_planned (books.Order n) e = no_books (books.Order n) plan accepted e
    books_not_planned (books.UnknownMember n) e = no_books (books.UnknownMember n) plan accepted e
    books_not_planned (books.Totals n) e = no_books (books.Totals n) plan accepted e
    books_not_planned books.TooMuch e = no_books books.TooMuch plan accepted e
    books_not_planned books.Memory e = no_memory

    module _ (period : Span) (opening : Ledger) (opened : IsBooksText k period opening) where
      pub batch_not_planned : (f : BatchFault) → UnlessBatchMemory f (HasFault b f) → IsNotPlanned s k b (of_batch f)
      batch_not_planned (batch.Outside at) e = no_batch (batch.Outside at) plan period opening accepted opened e
      batch_not_planned (batch.NoHeader at) e = no_batch (batch.NoHeader at) plan period opening accepted opened e
      batch_not_planned (batch.HeaderShape at) e = no_batch (batch.HeaderShape at) plan period opening accepted opened e
      batch_not_planned (batch.Unclosed at) e = no_batch (batch.Unclosed at) plan period opening accepted opened e
      batch_not_planned (batch.RecordKind at) e = no_batch (batch.RecordKind at) plan period opening accepted opened e
      batch_not_planned (batch.DetailShape at) e = no_batch (batch.DetailShape at) plan period opening accepted opened e
      batch_not_planned (batch.TrailerShape at) e = no_batch (batch.TrailerShape at) plan period opening accepted opened e
      batch_not_planned (batch.NoTrailer at) e = no_batch (batch.NoTrailer at) plan period opening accepted opened e
      batch_not_planned (batch.NumberDiffers at) e = no_batch (batch.NumberDiffers at) plan period opening accepted opened e
      batch_not_planned (batch.CountDiffers at) e = no_batch (batch.CountDiffers at) plan period opening accepted opened e
      batch_not_planned (batch.AfterTrailer at) e = no_batch (batch.AfterTrailer at) plan period opening accepted opened e
      batch_not_planned (batch.TooMuch at) e = no_batch (batch.TooMuch at) plan period opening accepted opened e
      batch_not_planned batch.Memory e = no_memory
