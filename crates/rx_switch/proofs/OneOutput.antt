-- What is given stands for one thing, and so has one output.
use Rattle.std.proofs.Common.{◌≡◌, ℕ, List, Result, Ok, sym, ap, ◌∙◌}
use Rattle.rx_batch.specs.declared.batch.Batch.{Batch}
use Rattle.rx_batch.specs.declared.detail.Detail.{Detail}
use Rattle.rx_batch.specs.declared.head.Head.{Head}
use Rattle.rx_batch.proofs.Readings.{file_is_read}
use Rattle.rx_books_store.specs.BooksFile.{IsBooksText}
use Rattle.rx_books_store.specs.BooksText.{parts_of}
use Rattle.rx_books_store.specs.Figures.{books_of, books_of_parts, unless_wrong, unsummed}
use Rattle.rx_books_store.specs.LedgerBooks.{LedgerBooks}
use Rattle.rx_books_store.proofs.BooksFile.{parts_right}
use Rattle.rx_text.specs.Results.{◌>>=◌}
use Rattle.rx_books_text.specs.Printed.{PrintedParts}
use Rattle.rx_books_text.proofs.Printing.{printed_again}
use Rattle.rx_fields.specs.Numbered.{Span}
use Rattle.rx_ledger.specs.Ledger.{Ledger}
use Rattle.rx_switch.specs.Output.{Accepted, Given, IsOutput, StandFor, Texts, texts_of}

abbrev good : {A E : Type 0} → A → Result A E
good x = Ok x

pub good_same : {A E : Type 0} (x y : A) → good {A = A} {E = E} x ≡ good y → x ≡ y
good_same x y e = cc

abbrev pub books_read : Span → Ledger → LedgerBooks
books_read period L = record { period = period; ledger = L }

-- a books text is read as its books
pub books_are : (text : List ℕ) (period : Span) (L : Ledger) → IsBooksText text period L
    → books_of text ≡ Ok (books_read period L)
books_are text period L is =
    let q : PrintedParts = parts_of is.version period L in
    ap books_of is.is_text ∙ ap (λ s. s >>= books_of_parts) (printed_again q is.printed)
    ∙ ap (unless_wrong (unsummed q)) (parts_right is.version period L is.printed)

abbrev pub batch_read : Head → List Detail → Batch
batch_read head details = record { head = head; details = details }

same_inputs : (g : Given) (x y : Accepted) → StandFor g x → StandFor g y → x ≡ y
same_inputs g x y is was =
    let stamps : x.stamp ≡ y.stamp = good_same x.stamp y.stamp (sym is.stamp ∙ was.stamp) in
    let plans : x.plan ≡ y.plan = good_same x.plan y.plan (sym is.sheet ∙ was.sheet) in
    let books : books_read x.period x.opening ≡ books_read y.period y.opening =
    good_same (books_read x.period x.opening) (books_read y.period y.opening)
    (sym (books_are g.books x.period x.opening is.books) ∙ books_are g.books y.period y.opening was.books) in
    let batches : batch_read x.head x.details ≡ batch_read y.head y.details =
    good_same (batch_read x.head x.details) (batch_read y.head y.details)
    (sym (file_is_read g.batch x.head x.details is.batch) ∙ file_is_read g.batch y.head y.details was.batch) in
    λ i. record {
      stamp = stamps i;
      plan = plans i;
      period = (books i).period;
      opening = (books i).ledger;
      head = (batches i).head;
      details = (batches i).details;
    }

pub same_texts : (g : Given) (t u : Texts) → IsOutput g t → IsOutput g u → t ≡ u
same_texts g t u is was =
    is.texts_are ∙ ap texts_of (same_inputs g is.inputs was.inputs is.accepted was.accepted) ∙ sym was.texts_are
