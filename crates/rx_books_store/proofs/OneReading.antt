-- A fault of a text is the one that is read: so a text has one reading, its books or its first fault.
use Rattle.std.proofs.Common.{◌≡◌, ℕ, ◌+◌, List, [], ◌∷◌, ◌++◌, length, map, Bool, true, false, not}
use Rattle.std.proofs.Common.{Some, None, Err, refl, subst, ap, ◌∙◌, inl, inr, arith}
use Rattle.std.specs.List.{All, position_from}
use Rattle.std.proofs.lemmas.Bool.{cases_Bool}
use Rattle.std.proofs.lemmas.Iterator.Adapters.{position_from-zero}
use Rattle.std.proofs.lemmas.List.Elements.{All-cons, All-contains, All-head, All-map, All-nil, All-tail}
use Rattle.rx_fields.specs.Numbered.{Span}
use Rattle.rx_ledger.specs.Ledger.{Ledger}
use Rattle.rx_books_text.specs.declared.fault.BooksFault.{BooksFault}
use Rattle.rx_books_text.specs.declared.line.Line.{Line}
use Rattle.rx_text.specs.Results.{◌>>=◌}
use Rattle.rx_books_text.specs.Printed.{IsPrinted, PrintedParts, has_member, lines_of, total_family}
use Rattle.rx_books_text.proofs.OneReading as lines
use Rattle.rx_books_text.proofs.Printing.{printed_again}
use Rattle.rx_books_store.specs.BooksFile.{HasBooksFault, HasSums, IsWrongLine}
use Rattle.rx_books_store.specs.BooksFile.HasBooksFault.{of_figures, of_lines}
use Rattle.rx_books_store.specs.BooksFile.IsWrongLine.{no_total, wrong_figure}
use Rattle.rx_books_store.specs.BooksText.{families_of}
use Rattle.rx_books_store.specs.Figures.{are_sums, books_of, books_of_parts, first_wrong, has_all_totals}
use Rattle.rx_books_store.specs.Figures.{has_total, unless_wrong, unsummed, wrong_from, wrong_line}
use Rattle.rx_books_store.proofs.BooksFile.{total_there}
use Rattle.rx_books_store.proofs.FamilyOrder.{family_among}
use Rattle.rx_books_store.proofs.Figured.{AllPassing, IsRight, all_front, nothing_wrong, passing}
use Rattle.rx_books_store.proofs.WrongLine.{IsKnown, all_known, right_of, sums_of}

-- the first that fails is found, where those before it pass
found_at : {X : Type 0} (p : X → Bool) (k : ℕ) (before after : List X) (x : X) → AllPassing p before → p x ≡ false
    → position_from (λ y. not (p y)) k (before ++ x ∷ after) ≡ Some (k + length before)
found_at p k [] after x all fails =
    let place : k ≡ k + 0 = omega arith in
    rw fails (ap Some place)
found_at p k (y ∷ ys) after x all fails =
    let place : (k + 1) + length ys ≡ k + length (y ∷ ys) = omega arith in
    rw (All-head (λ z. p z ≡ true) y ys all)
    (found_at p (k + 1) ys after x (All-tail (λ z. p z ≡ true) y ys all) fails ∙ ap Some place)

module _ (p : Span) (L : Ledger) where
  -- lines of listed members and families are right where their figures are the sums
  rights : (ls : List Line) → All (IsKnown p L) ls → All (HasSums p L) ls → All (IsRight p L) ls
  rights [] known sums = All-nil (IsRight p L)
  rights (l ∷ ls) known sums = All-cons (IsRight p L) l ls
      (right_of p L l (All-head (IsKnown p L) l ls known) (All-head (HasSums p L) l ls sums))
      (rights ls (All-tail (IsKnown p L) l ls known) (All-tail (HasSums p L) l ls sums))

-- a line whose figures aren't the sums is found
figure_found : (q : PrintedParts) → IsPrinted q → (before after : List Line) (l : Line) → lines_of q ≡ before ++ l ∷ after
    → All (HasSums q.head.period q.ledger) before → (HasSums q.head.period q.ledger l → ⊥)
    → first_wrong q ≡ Some (length before)
figure_found q is before after l whole sums wrong =
    let p = q.head.period in
    let L = q.ledger in
    let known : All (IsKnown p L) before = all_front (IsKnown p L) before (l ∷ after)
    (subst (All (IsKnown p L)) whole (all_known q is)) in
    let fails : are_sums (unsummed q) l ≡ false = elim (cases_Bool (are_sums (unsummed q) l)) [
      | inl t ↦ absurd (wrong (sums_of p L l t))
      | inr f ↦ f
    ] in
    let place : 0 + length before ≡ length before = omega arith in
    position_from-zero (λ x. not (are_sums (unsummed q) x)) (lines_of q)
    ∙ ap (position_from (λ x. not (are_sums (unsummed q) x)) 0) whole
    ∙ found_at (are_sums (unsummed q)) 0 before after l (rights p L before known sums) fails ∙ ap Some place

-- a family without a total line is missed
total_missed : (q : PrintedParts) (family : List ℕ) → has_member q.ledger family ≡ true
    → All (λ t. t.family ≡ family → ⊥) q.totals → has_all_totals q ≡ false
total_missed q family has apart = elim (cases_Bool (has_all_totals q)) [
  | inl t ↦
      let fs = families_of q.ledger.members in
      let there : has_total q.totals family ≡ true = All-contains (λ f. has_total q.totals f ≡ true) fs family
      (passing (has_total q.totals) fs t) (family_among q.ledger.members family has) in
      let others : All (λ f. f ≡ family → ⊥) (map total_family q.totals) =
      All-map (λ f. f ≡ family → ⊥) total_family q.totals apart in
      absurd (All-contains (λ f. f ≡ family → ⊥) (map total_family q.totals) family others
      (total_there q.totals family there) refl)
  | inr f ↦ f
]

-- the wrong line is the one that the search finds
wrong_found : (q : PrintedParts) → IsPrinted q → {n : ℕ} → IsWrongLine q n → wrong_line q ≡ Some n
wrong_found q is (wrong_figure before after l whole sums wrong) =
    ap (wrong_from q) (figure_found q is before after l whole sums wrong)
wrong_found q is (no_total family sums has apart) =
    let p = q.head.period in
    let L = q.ledger in
    let none : first_wrong q ≡ None = position_from-zero (λ l. not (are_sums (unsummed q) l)) (lines_of q)
    ∙ nothing_wrong (are_sums (unsummed q)) 0 (lines_of q) (rights p L (lines_of q) (all_known q is) sums) in
    let missed = total_missed q family has apart in
    ap (wrong_from q) none ∙ rw missed refl

-- a fault is the one that is read
pub fault_read : {text : List ℕ} {f : BooksFault} → HasBooksFault text f → books_of text ≡ Err f
fault_read (of_lines f fault_is) = ap (λ s. s >>= books_of_parts) (lines.fault_read fault_is)
fault_read (of_figures p n spelled is wrong) =
    ap books_of spelled ∙ ap (λ s. s >>= books_of_parts) (printed_again p is)
    ∙ ap (unless_wrong (unsummed p)) (wrong_found p is wrong)
