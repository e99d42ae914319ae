-- Bytes have one reading: as a batch, and as books.
use Rattle.std.proofs.Common.{◌≡◌, ℕ, List, Result, Ok, refl, sym, ap, ◌∙◌}
use Rattle.rx_batch.specs.Grammar.{IsFile}
use Rattle.rx_batch.specs.declared.batch.Batch.{Batch}
use Rattle.rx_batch.specs.declared.detail.Detail.{Detail}
use Rattle.rx_batch.specs.declared.head.Head.{Head}
use Rattle.rx_batch.proofs.Readings.{file_is_read}
use Rattle.rx_books_store.specs.BooksFile.{IsBooksText}
use Rattle.rx_books_store.specs.LedgerBooks.{LedgerBooks}
use Rattle.rx_books_store.proofs.BooksFile.{read_as}
use Rattle.rx_fields.specs.Numbered.{Span}
use Rattle.rx_ledger.specs.Ledger.{Ledger}

abbrev good : {A E : Type 0} → A → Result A E
good x = Ok x

pub good-same : {A E : Type 0} (o p : Result A E) (x y : A) → o ≡ good x → p ≡ good y → o ≡ p → x ≡ y
good-same {A} {E} o p x y first second same =
    let e : good {A = A} {E = E} x ≡ good y = sym first ∙ same ∙ second in cc

abbrev pub batch-of : Head → List Detail → Batch
batch-of head details = record { head = head; details = details }

pub files-same : (bytes : List ℕ) (head other-head : Head) (details others : List Detail) → IsFile bytes head details
    → IsFile bytes other-head others → batch-of head details ≡ batch-of other-head others
files-same bytes head other-head details others one other =
    good-same _ _ (batch-of head details) (batch-of other-head others) (file_is_read bytes head details one)
    (file_is_read bytes other-head others other) refl

abbrev books-of : Span → Ledger → LedgerBooks
books-of period L = record { period = period; ledger = L }

pub books-same : (text : List ℕ) (period other : Span) (L M : Ledger) → IsBooksText text period L → IsBooksText text other M → L ≡ M
books-same text period other L M one too =
    ap (λ (b : LedgerBooks). b.ledger)
    (good-same _ _ (books-of period L) (books-of other M) (read_as text period L one) (read_as text other M too) refl)
