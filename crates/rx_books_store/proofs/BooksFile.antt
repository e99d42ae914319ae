-- A text is read as the books of which it is the one text, and refused where it is that of no books.
use Rattle.std.proofs.Common.{◌≡◌, ℕ, List, [], ◌∷◌, ◌++◌, map, true, false, not, Option, Some}
use Rattle.std.proofs.Common.{None, Result, Ok, Err, refl, sym, subst, ap, ◌∙◌, inl, inr}
use Rattle.std.specs.Prelude.{IfErr, IfOk}
use Rattle.std.specs.List.{All, Contains}
use Rattle.std.specs.Option.{is_some}
use Rattle.std.proofs.lemmas.Bool.{cases_Bool}
use Rattle.std.proofs.lemmas.Iterator.Adapters.{position_from-zero}
use Rattle.std.proofs.lemmas.List.Elements.{All-append, All-contains, All-contains_itself, All-map, All-weaker}
use Rattle.rx_fields.specs.Numbered.{Span}
use Rattle.rx_fields.specs.Order.{id_cmp}
use Rattle.rx_sorted.specs.Ascending.{IsAscending, IsBelow, item_at}
use Rattle.rx_sorted.proofs.Edits.{same_members}
use Rattle.rx_sorted.proofs.LookUps.{item_at-found, item_at-from_contains}
use Rattle.rx_ledger.specs.Ledger.{Ledger}
use Rattle.rx_ledger.proofs.Orders.{id_exact, id_total}
use Rattle.rx_books_text.specs.declared.fault.BooksFault.{BooksFault}
use Rattle.rx_books_text.specs.declared.line.Line.TheVariants as line
use Rattle.rx_books_text.specs.declared.line.TotalLine.{TotalLine}
use Rattle.rx_books_text.specs.declared.version.Version.{Version}
use Rattle.rx_books_text.specs.declared.version.Version.TheVariants.{Three}
use Rattle.rx_text.specs.Results.{◌>>=◌}
use Rattle.rx_books_text.specs.Fault.{Gives, UnlessMemory}
use Rattle.rx_books_text.specs.LineFits.{IsLine, PrintsDeductible}
use Rattle.rx_books_text.specs.Printed.{IsPrinted, PrintedParts, has_member, lines_of, member_lines, printed_text, total_family}
use Rattle.rx_books_text.specs.TextReading.{printed_of}
use Rattle.rx_books_text.proofs.Fronts.{read_ok}
use Rattle.rx_books_text.proofs.Printing.{printed_again}
use Rattle.rx_books_text.proofs.TextLaws.{IsReading, reading}
use Rattle.rx_books_text.proofs.TextSteps.{unless_so}
use Rattle.rx_books_store.specs.BooksFile.{HasBooksFault, IsBooksText}
use Rattle.rx_books_store.specs.BooksFile.HasBooksFault.{of_figures, of_lines}
use Rattle.rx_books_store.specs.BooksText.{books_text, families_of, parts_of, total_of}
use Rattle.rx_books_store.specs.Figures.{are_sums, books_of, books_of_parts, first_wrong, has_all_totals}
use Rattle.rx_books_store.specs.Figures.{has_total, unless_wrong, unsummed, wrong_from, wrong_line}
use Rattle.rx_books_store.specs.LedgerBooks.{LedgerBooks}
use Rattle.rx_books_store.proofs.FamilyOrder.{families_rise, family_among, itself}
use Rattle.rx_books_store.proofs.Figured.{IsRight, all_back, all_behind, all_front, all_inhabited, all_listed, all_right}
use Rattle.rx_books_store.proofs.Figured.{claims_right, contains_map, deductibles_are, figure, members_right, nothing_wrong}
use Rattle.rx_books_store.proofs.Figured.{passes, passing, totals_are, totals_right}
use Rattle.rx_books_store.proofs.VersionThree.{three}
use Rattle.rx_books_store.proofs.WrongLine.{wrong_line_is}

-- ---- the families of the total lines

below_map : (k : List ℕ) (ts : List TotalLine) → IsBelow id_cmp total_family k ts → IsBelow id_cmp itself k (map total_family ts)
below_map k [] below = tt
below_map k (t ∷ ts) below = (below.0, below_map k ts below.1)

rise_map : (ts : List TotalLine) → IsAscending id_cmp total_family ts → IsAscending id_cmp itself (map total_family ts)
rise_map [] rise = tt
rise_map (t ∷ ts) rise = (below_map t.family ts rise.0, rise_map ts rise.1)

pub total_there : (ts : List TotalLine) (f : List ℕ) → has_total ts f ≡ true → Contains (map total_family ts) f
total_there ts f has = by_item (item_at id_cmp total_family ts f) refl
  where
    by_item : (o : Option TotalLine) → item_at id_cmp total_family ts f ≡ o → Contains (map total_family ts) f
    by_item None none = absurd (let e : false ≡ true = sym (ap is_some none) ∙ has in cc)
    by_item (Some t) some =
        let found = item_at-found id_cmp id_total total_family ts f t some in
        subst (Contains (map total_family ts)) (id_exact t.family f found.1) (contains_map total_family ts t found.0)

-- ---- the sums are right

pub parts_right : (v : Version) (p : Span) (L : Ledger) → IsPrinted (parts_of v p L) → wrong_line (parts_of v p L) ≡ None
parts_right v p L is =
    let q : PrintedParts = parts_of v p L in
    let fs = families_of L.members in
    let first = member_lines L.members q.deductibles in
    let second = map (λ r. line.Claim r) L.rows in
    let third = map (λ t. line.Total t) q.totals in
    let all : All (IsRight p L) (lines_of q) = All-append (IsRight p L) first (second ++ third)
    (members_right p L L.members (all_listed L is.ledger))
    (All-append (IsRight p L) second third (claims_right p L L.rows) (totals_right p L v fs (all_inhabited L is.ledger))) in
    let none : first_wrong q ≡ None = position_from-zero (λ l. not (are_sums (unsummed q) l)) (lines_of q)
    ∙ nothing_wrong (are_sums (unsummed q)) 0 (lines_of q) all in
    let each : has_all_totals q ≡ true = passes (has_total q.totals) fs
    (All-weaker (Contains fs) (λ f. has_total q.totals f ≡ true)
    (λ f among. ap is_some (item_at-from_contains id_cmp id_total total_family q.totals (total_of v p L f) is.totals_rise
    (contains_map (total_of v p L) fs f among)))
    fs (All-contains_itself fs)) in
    ap (wrong_from q) none ∙ rw each refl

-- ---- where nothing is wrong

none_from : (q : PrintedParts) (o : Option ℕ) → wrong_from q o ≡ None → (o ≡ None) × (has_all_totals q ≡ true)
none_from q (Some at) is = absurd cc
none_from q None is = elim (cases_Bool (has_all_totals q)) [
  | inl t ↦ (refl, t)
  | inr f ↦ absurd (let e = rw f at is in cc)
]

pub parts_are : (q : PrintedParts) → IsPrinted q → wrong_line q ≡ None
    → q ≡ parts_of q.head.version q.head.period q.ledger
parts_are q is right =
    let v = q.head.version in
    let p = q.head.period in
    let L = q.ledger in
    let ts = q.totals in
    let fs = families_of L.members in
    let first = member_lines L.members q.deductibles in
    let second = map (λ r. line.Claim r) L.rows in
    let third = map (λ t. line.Total t) ts in
    let nothing = none_from q (first_wrong q) right in
    let all : All (IsRight p L) (lines_of q) = all_right (are_sums (unsummed q)) 0 (lines_of q)
    (sym (position_from-zero (λ l. not (are_sums (unsummed q) l)) (lines_of q)) ∙ nothing.0) in
    let figures : q.deductibles ≡ map (figure p L) L.members = deductibles_are p L L.members q.deductibles is.one_each
    (all_front (IsRight p L) first (second ++ third) all) in
    let rights : All (λ t. IsRight p L (line.Total t)) ts = all_behind (IsRight p L) (λ t. line.Total t) ts
    (all_back (IsRight p L) second third (all_back (IsRight p L) first (second ++ third) all)) in
    let fits : All (λ t. IsLine v (line.Total t)) ts = all_behind (IsLine v) (λ t. line.Total t) ts
    (all_back (IsLine v) second third (all_back (IsLine v) first (second ++ third) is.lines)) in
    let prints : All (λ t. PrintsDeductible v t.deductible) ts =
    All-weaker (λ t. IsLine v (line.Total t)) (λ t. PrintsDeductible v t.deductible) (λ t fit. fit.deductible) ts fits in
    let families : map total_family ts ≡ fs = same_members id_cmp id_total itself (map total_family ts) fs
    (rise_map ts is.totals_rise) (families_rise L.members is.ledger.members_rise)
    (λ f among. family_among L.members f (All-contains (λ g. has_member L g ≡ true) (map total_family ts) f
    (All-map (λ g. has_member L g ≡ true) total_family ts (passing (λ t. has_member L t.family) ts is.families)) among))
    (λ f among. total_there ts f (All-contains (λ g. has_total ts g ≡ true) fs f (passing (has_total ts) fs nothing.1) among)) in
    let totals : ts ≡ map (total_of v p L) fs = totals_are p L v ts rights prints ∙ ap (map (total_of v p L)) families in
    λ i. record { head = q.head; ledger = L; deductibles = figures i; totals = totals i }

-- ---- a text

-- what the reading of a text says of it
abbrev pub Says : List ℕ → Result LedgerBooks BooksFault → Type 0
Says text (Ok b) = IsBooksText text b.period b.ledger
Says text (Err f) = HasBooksFault text f

by_line : (text : List ℕ) (q : PrintedParts) → text ≡ printed_text q → IsPrinted q → (o : Option ℕ) → wrong_line q ≡ o
    → Says text (unless_wrong (unsummed q) o)
by_line text q spelled is None right =
    let same = parts_are q is right in
    record {
      version = q.head.version;
      is_text = spelled ∙ ap printed_text same;
      printed = subst IsPrinted same is;
    }
by_line text q spelled is (Some n) wrong = of_figures q n spelled is (wrong_line_is q is n wrong)

by_parts : (text : List ℕ) (r : Result PrintedParts BooksFault) → printed_of text ≡ r → Says text (r >>= books_of_parts)
by_parts text (Ok q) is =
    let read = read_ok text (Ok q) is in
    by_line text q read.0 read.1 (wrong_line q) refl
by_parts text (Err f) is = of_lines f (subst (IsReading text) is (reading text))

pub says : (text : List ℕ) → Says text (books_of text)
says text = by_parts text (printed_of text) refl

-- ---- as clauses

pub accepted : (text : List ℕ) (r : Result LedgerBooks BooksFault) → Gives r (books_of text)
    → IfOk r (λ b. IsBooksText text b.period b.ledger)
accepted text (Ok b) is = subst (Says text) is (says text)
accepted text (Err f) is = tt

-- what was read, written in version 3, is a text of the same books
pub accepted_again : (text : List ℕ) (r : Result LedgerBooks BooksFault) → Gives r (books_of text)
    → IfOk r (λ b. IsBooksText (books_text Three b.period b.ledger) b.period b.ledger)
accepted_again text (Ok b) is = three text b.period b.ledger (accepted text (Ok b) is)
accepted_again text (Err f) is = tt

pub refused : (text : List ℕ) (r : Result LedgerBooks BooksFault) → Gives r (books_of text)
    → IfErr r (λ f. UnlessMemory f (HasBooksFault text f))
refused text (Ok b) is = tt
refused text (Err f) is = unless_so f (λ e. subst (Says text) e (says text)) is

-- the text of books is read as those
pub read_as : (text : List ℕ) (p : Span) (L : Ledger) → IsBooksText text p L
    → books_of text ≡ unless_wrong (record { period = p; ledger = L }) None
read_as text p L books =
    let q : PrintedParts = parts_of books.version p L in
    ap books_of books.is_text ∙ ap (λ s. s >>= books_of_parts) (printed_again q books.printed)
    ∙ ap (unless_wrong (unsummed q)) (parts_right books.version p L books.printed)

pub reads : (text : List ℕ) (r : Result LedgerBooks BooksFault) → Gives r (books_of text) → (p : Span) (L : Ledger)
    → IsBooksText text p L → Gives r (Ok (record { period = p; ledger = L }))
reads text r is p L books = subst (Gives r) (read_as text p L books) is
