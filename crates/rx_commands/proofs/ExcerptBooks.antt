-- A text is read as books exactly where it is the text of these.
use Rattle.std.proofs.Common.{◌≡◌, List, ℕ, Bool, true, false, Result, Ok, Err, sym, subst}
use Rattle.std.specs.Prelude.{◌↔◌, IsTrue}
use Rattle.rx_text.specs.Outcomes.{Unless}
use Rattle.rx_books_text.specs.Fault.{wants_memory}
use Rattle.rx_books_text.specs.declared.fault.BooksFault.{BooksFault}
use Rattle.rx_books_store.specs.BooksFile.{IsBooksText, ReadsAllBooks}
use Rattle.rx_books_store.specs.LedgerBooks.{LedgerBooks}

same_of : (x y : LedgerBooks) → ◌≡◌ {A = Result LedgerBooks BooksFault} (Ok x) (Ok y) → x ≡ y
same_of x y e = cc

never : (x : LedgerBooks) (f : BooksFault) → ◌≡◌ {A = Result LedgerBooks BooksFault} (Ok x) (Err f) → ⊥
never x f e = cc

module _ (text : List ℕ) (books : LedgerBooks) where
  abbrev Has : LedgerBooks → Type 0
  Has b = IsBooksText text b.period b.ledger

  read_of : (read : LedgerBooks) → ReadsAllBooks text (Ok read) → Has books → read ≡ books
  read_of read all has = sym (same_of books read (all books.period books.ledger has))

  -- what was read is these books exactly where it is their text
  pub of_read : (read : LedgerBooks) (is : Bool) → Has read → ReadsAllBooks text (Ok read) → (IsTrue is ↔ (read ≡ books))
      → IsTrue is ↔ Has books
  of_read read is has all same = (λ t. subst Has (same.0 t) has, λ h. same.1 (read_of read all h))

  -- what is refused is the text of no books, unless memory ran out
  pub of_fault : (f : BooksFault) → wants_memory f ≡ false → ReadsAllBooks text (Err f) → IsTrue false ↔ Has books
  of_fault f other all = (
    λ t. absurd (let e : false ≡ true = t in cc),
    λ h. absurd (never books f
        (subst (λ b. Unless b (◌≡◌ {A = Result LedgerBooks BooksFault} (Ok books) (Err f))) other (all books.period books.ledger h))),
  )
