-- Meaning: what a books file is, and the first fault of a text that is none (docs/FORMATS.md, "Books file").
use Rattle.std.specs.Prelude.{◌≡◌, ℕ, ◌+◌, true, List, ◌∷◌, ◌++◌, length, IfErr, IfOk, Ok, Option, Result, Some, None}
use Rattle.std.specs.List.{All}
use Rattle.rx_fields.specs.Numbered.{Span}
use Rattle.rx_ledger.specs.Ledger.{Ledger}
use Rattle.rx_ledger.specs.Sums.{deductible, family_deductible, out_of_pocket}
use Rattle.rx_books_text.specs.declared.fault.BooksFault.{BooksFault}
use Rattle.rx_books_text.specs.declared.fault.BooksFault.TheVariants as fault
use Rattle.rx_books_text.specs.declared.line.Line.{Line}
use Rattle.rx_books_text.specs.declared.line.Line.TheVariants as line
use Rattle.rx_books_text.specs.declared.version.Version.{Version}
use Rattle.rx_books_text.specs.declared.version.Version.TheVariants.{Three}
use Rattle.rx_books_text.specs.Fault.{Gives, UnlessMemory}
use Rattle.rx_books_text.specs.Printed.{IsPrinted, PrintedParts, has_member, lines_of, printed_text}
use Rattle.rx_books_text.specs.TextFault.{HasFault}
use Rattle.rx_books_store.specs.BooksText.{books_text, parts_of}
use Rattle.rx_books_store.specs.LedgerBooks.{LedgerBooks}

-- the text is the one text of this ledger with the sums of this period, in one of the versions
pub record IsBooksText (text : List ℕ) (period : Span) (L : Ledger) : Type 0 where
  pub version : Version
  pub is_text : text ≡ books_text version period L
  pub printed : IsPrinted (parts_of version period L)

-- ---- a text that has no fault but in its figures

-- the figure is the sum, where it is printed
abbrev pub IsIfPrinted : ℕ → Option ℕ → Type 0
IsIfPrinted sum None = Unit {0}
IsIfPrinted sum (Some n) = n ≡ sum

-- the figures of a line are the sums over the rows dated within the period
abbrev pub HasSums : Span → Ledger → Line → Type 0
HasSums period L (line.Member m) = m.deductible ≡ deductible period L m.member.key.family m.member.key.person
HasSums period L (line.Claim r) = Unit {0}
HasSums period L (line.Total t) =
    (t.out_of_pocket ≡ out_of_pocket period L t.family) × IsIfPrinted (family_deductible period L t.family) t.deductible

-- line n is the first of which a figure isn't the sum; or all are, and a family has no total line. The head is line 1
pub data IsWrongLine (p : PrintedParts) : ℕ → Type 0 where
  wrong_figure : (before after : List Line) (l : Line) → lines_of p ≡ before ++ l ∷ after
      → All (HasSums p.head.period p.ledger) before → ¬ HasSums p.head.period p.ledger l
      → IsWrongLine p (length before + 2)
  no_total : (family : List ℕ) → All (HasSums p.head.period p.ledger) (lines_of p) → has_member p.ledger family ≡ true
      → All (λ t. ¬ (t.family ≡ family)) p.totals → IsWrongLine p (length (lines_of p) + 2)

-- the text isn't a books file, and this is its first fault: that of its lines, else that of its figures
pub data HasBooksFault (text : List ℕ) : BooksFault → Type 0 where
  of_lines : (f : BooksFault) → HasFault text f → HasBooksFault text f
  of_figures : (p : PrintedParts) (n : ℕ) → text ≡ printed_text p → IsPrinted p → IsWrongLine p n
      → HasBooksFault text (fault.Totals n)

-- ---- what reading a text answers

-- the books that are read are those whose text it is
abbrev pub ReadsBooksAlone : List ℕ → Result LedgerBooks BooksFault → Type 0
ReadsBooksAlone text result = IfOk result (λ books. IsBooksText text books.period books.ledger)

-- the text of books is read as those books, unless memory ran out
abbrev pub ReadsAllBooks : List ℕ → Result LedgerBooks BooksFault → Type 0
ReadsAllBooks text result = (period : Span) → (L : Ledger) → IsBooksText text period L
    → Gives result (Ok (record { period = period; ledger = L }))

-- what was read, written in version 3, is a text of the same books
abbrev pub ReadsWhatIsWritten : Result LedgerBooks BooksFault → Type 0
ReadsWhatIsWritten result =
    IfOk result (λ books. IsBooksText (books_text Three books.period books.ledger) books.period books.ledger)

-- the fault is the text's first, unless memory ran out
abbrev pub NamesFirstFault : List ℕ → Result LedgerBooks BooksFault → Type 0
NamesFirstFault text result = IfErr result (λ fault. UnlessMemory fault (HasBooksFault text fault))
