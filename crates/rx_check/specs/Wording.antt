-- Meaning: the words of a fault of an input: its place, what is there, and how it is mended, by the input's bytes where they could
-- be read again.
use Rattle.std.specs.Prelude.{◌≡◌, ℕ, List, [], Option, Some, None, string_bytes}
use Rattle.rx_batch.specs.declared.fault.BatchFault.{BatchFault}
use Rattle.rx_books_text.specs.declared.fault.BooksFault.{BooksFault}
use Rattle.rx_diagnostics.specs.BatchTexts.{batch_mend, batch_text, unread_batch_text}
use Rattle.rx_diagnostics.specs.BooksTexts.{books_telling, mended, unread_books_text}
use Rattle.rx_diagnostics.specs.Places.{batch_place, books_place, unread_batch_place}
use Rattle.rx_diagnostics.specs.SheetTexts.{unread_sheet_text}
use Rattle.rx_diagnostics.specs.SheetWords.{AreOfWhole, TellsOfSheet}
use Rattle.rx_diagnostics.specs.declared.place.Place.{Place}
use Rattle.rx_diagnostics.specs.declared.words.Words.{Words}
use Rattle.rx_sheet.specs.declared.fault.SheetFault.{SheetFault}

abbrev pub AreSheetWords : Option (List ℕ) → SheetFault → Words → Type 0
AreSheetWords None f words = AreOfWhole (unread_sheet_text f) words
AreSheetWords (Some text) f words = TellsOfSheet text f words

-- the words are about this place, say this, and no one step mends it
abbrev pub ArePlain : Place → List ℕ → Words → Type 0
ArePlain at said words = (words.place ≡ at) × ((string_bytes words.text ≡ said) × (words.mend.now ≡ []))

abbrev pub AreBooksWords : Option (List ℕ) → BooksFault → Words → Type 0
AreBooksWords None f words = ArePlain (books_place f) (unread_books_text f) words
AreBooksWords (Some text) f words =
    (words.place ≡ books_place f) × (mended (string_bytes words.text) words.mend.now ≡ books_telling text f)

abbrev pub AreBatchWords : Option (List ℕ) → BatchFault → Words → Type 0
AreBatchWords None f words = ArePlain (unread_batch_place f) (unread_batch_text f) words
AreBatchWords (Some text) f words =
    (words.place ≡ batch_place text f) × ((string_bytes words.text ≡ batch_text text f) × (words.mend.now ≡ batch_mend text f))
