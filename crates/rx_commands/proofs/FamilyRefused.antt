-- What a reader refuses, or has no memory for, is refused by `family`.
use Rattle.std.proofs.Common.{◌≡◌, ℕ, List, Option, Ok, Err}
use Rattle.rx_books_store.specs.BooksFile.{HasBooksFault}
use Rattle.rx_books_text.specs.Fault.{UnlessMemory as UnlessBooksMemory}
use Rattle.rx_books_text.specs.declared.fault.BooksFault.{BooksFault}
use Rattle.rx_books_text.specs.declared.fault.BooksFault.TheVariants as books
use Rattle.rx_ledger.specs.declared.figures.Figures.{Figures}
use Rattle.rx_sheet.specs.Fault.{UnlessMemory as UnlessSheetMemory}
use Rattle.rx_sheet.specs.declared.fault.SheetFault.{SheetFault}
use Rattle.rx_sheet.specs.declared.fault.SheetFault.TheVariants as sheet
use Rattle.rx_switch.specs.Fault.{of_books, of_sheet}
use Rattle.rx_commands.specs.FamilyShown.{IsNoFamilyShown, figures_of}
use Rattle.rx_commands.specs.FamilyShown.IsNoFamilyShown.{sheet as no_sheet, books as no_books, memory as no_memory}

module _ (s : Option (List ℕ)) (k : List ℕ) where
  pub sheet_not_shown : (f : SheetFault) → UnlessSheetMemory f (figures_of s ≡ Err f) → IsNoFamilyShown s k (of_sheet f)
  sheet_not_shown sheet.NotToml e = no_sheet sheet.NotToml e
  sheet_not_shown (sheet.Missing key) e = no_sheet (sheet.Missing key) e
  sheet_not_shown (sheet.Wrong key) e = no_sheet (sheet.Wrong key) e
  sheet_not_shown sheet.Memory e = no_memory

  module _ (figures : Option Figures) (accepted : figures_of s ≡ Ok figures) where
    pub books_not_shown : (f : BooksFault) → UnlessBooksMemory f (HasBooksFault k f) → IsNoFamilyShown s k (of_books f)
    books_not_shown books.Head e = no_books books.Head figures accepted e
    books_not_shown (books.Line n) e = no_books (books.Line n) figures accepted e
    books_not_shown (books.Order n) e = no_books (books.Order n) figures accepted e
    books_not_shown (books.UnknownMember n) e = no_books (books.UnknownMember n) figures accepted e
    books_not_shown (books.Totals n) e = no_books (books.Totals n) figures accepted e
    books_not_shown books.TooMuch e = no_books books.TooMuch figures accepted e
    books_not_shown books.Memory e = no_memory
