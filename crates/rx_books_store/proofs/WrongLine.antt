-- The line that the search finds wrong is the first of which a figure isn't the sum, or that of a missing total line.
use Rattle.std.proofs.Common.{◌≡◌, ℕ, ◌+◌, List, [], ◌∷◌, ◌++◌, length, map, Bool, true, false, not, cond}
use Rattle.std.proofs.Common.{Option, Some, None, refl, sym, subst, ap, ◌∙◌, inl, inr, arith}
use Rattle.std.specs.List.{All, list_all, position_from}
use Rattle.std.specs.Ordering.{is_eq}
use Rattle.std.proofs.lemmas.Bool.{and_parts, cases_Bool}
use Rattle.std.proofs.lemmas.Cmp.{tied_itself}
use Rattle.std.proofs.lemmas.Iterator.Adapters.{position_from-zero}
use Rattle.std.proofs.lemmas.List.Elements.{All-append, All-cons, All-head, All-nil, All-tail, All-weaker}
use Rattle.rx_fields.specs.Order.{id_cmp}
use Rattle.rx_fields.specs.Numbered.{Span}
use Rattle.rx_sorted.specs.Ascending.{has_key}
use Rattle.rx_sorted.proofs.LookUps.{item_at-free, none_has}
use Rattle.rx_ledger.specs.declared.member.Member.{Member}
use Rattle.rx_ledger.specs.declared.row.Row.{Row}
use Rattle.rx_ledger.specs.Ledger.{Ledger, is_listed}
use Rattle.rx_ledger.specs.Members.{is_same}
use Rattle.rx_ledger.specs.Sums.{deductible, family_deductible, out_of_pocket}
use Rattle.rx_ledger.proofs.Orders.{id_total}
use Rattle.rx_books_text.specs.declared.line.Line.{Line}
use Rattle.rx_books_text.specs.declared.line.Line.TheVariants as line
use Rattle.rx_books_text.specs.declared.line.TotalLine.{TotalLine}
use Rattle.rx_books_text.specs.Printed.{IsPrinted, PrintedParts, has_member, lines_of, member_lines, total_family}
use Rattle.rx_books_store.specs.BooksFile.{HasSums, IsIfPrinted, IsWrongLine}
use Rattle.rx_books_store.specs.BooksFile.IsWrongLine.{wrong_figure, no_total}
use Rattle.rx_books_store.specs.BooksText.{families_of}
use Rattle.rx_books_store.specs.Figures.{are_sums, first_wrong, has_all_totals, has_total, is_figure}
use Rattle.rx_books_store.specs.Figures.{is_if_printed, unsummed, wrong_from, wrong_line}
use Rattle.rx_books_store.specs.LedgerBooks.{has_members}
use Rattle.rx_books_store.proofs.Figured.{AllPassing, IsRight, all_back, all_inhabited, all_listed}
use Rattle.rx_books_store.proofs.Figured.{all_right, figure_is, passing, same_number}

-- the first that fails
record FirstOf {X : Type 0} (p : X → Bool) (k n : ℕ) (xs : List X) : Type 0 where
  before : List X
  item : X
  after : List X
  whole : xs ≡ before ++ item ∷ after
  right : AllPassing p before
  fails : p item ≡ false
  place : n ≡ k + length before

first_of : {X : Type 0} (p : X → Bool) (k n : ℕ) (xs : List X) → position_from (λ x. not (p x)) k xs ≡ Some n
    → FirstOf p k n xs
first_of p k n [] some = absurd (let e : None ≡ Some n = some in cc)
first_of p k n (x ∷ xs) some = elim (cases_Bool (p x)) [
  | inl t ↦
      let rest = first_of p (k + 1) n xs (rw t at some) in
      record {
        before = x ∷ rest.before;
        item = rest.item;
        after = rest.after;
        whole = ap (λ ys. x ∷ ys) rest.whole;
        right = All-cons (λ y. p y ≡ true) x rest.before t rest.right;
        fails = rest.fails;
        place = omega (arith, rest.place);
      }
  | inr f ↦
      let e : Some k ≡ Some n = rw f at some in
      let same : k ≡ n = cc in
      record {
        before = [];
        item = x;
        after = xs;
        whole = refl;
        right = All-nil (λ y. p y ≡ true);
        fails = f;
        place = omega arith;
      }
]

one_fails : {X : Type 0} (P : X → Type 0) (q : X → Bool) (xs : List X) → All P xs → list_all q xs ≡ false
    → (x : X) × P x × (q x ≡ false)
one_fails P q [] all none = absurd cc
one_fails P q (x ∷ xs) all none = elim (cases_Bool (q x)) [
  | inl t ↦ one_fails P q xs (All-tail P x xs all) (rw t at none)
  | inr f ↦ (x, All-head P x xs all, f)
]

-- ---- the figures of a line

if_printed_is : (o : Option ℕ) (b : Bool) (x : ℕ) → is_if_printed (cond b (Some x) None) o ≡ true → IsIfPrinted x o
if_printed_is None b x is = tt
if_printed_is (Some n) b x is = figure_is b x n is

is_printed : (o : Option ℕ) (x : ℕ) → IsIfPrinted x o → is_if_printed (Some x) o ≡ true
is_printed None x is = refl
is_printed (Some n) x is = rw is (same_number x)

module _ (p : Span) (L : Ledger) where
  -- a listed member, or a family that has one
  abbrev pub IsKnown : Line → Type 0
  IsKnown (line.Member m) = is_listed L m.member.key ≡ true
  IsKnown (line.Claim r) = Unit {0}
  IsKnown (line.Total t) = has_members L t.family ≡ true

  pub sums_of : (l : Line) → IsRight p L l → HasSums p L l
  sums_of (line.Member m) is = figure_is (is_listed L m.member.key)
      (deductible p L m.member.key.family m.member.key.person) m.deductible is
  sums_of (line.Claim r) is = tt
  sums_of (line.Total t) is =
      let b = has_members L t.family in
      let parts = and_parts (is_figure (cond b (Some (out_of_pocket p L t.family)) None) t.out_of_pocket)
      (is_if_printed (cond b (Some (family_deductible p L t.family)) None) t.deductible) is in (
        figure_is b (out_of_pocket p L t.family) t.out_of_pocket parts.0,
        if_printed_is t.deductible b (family_deductible p L t.family) parts.1,
      )

  pub right_of : (l : Line) → IsKnown l → HasSums p L l → IsRight p L l
  right_of (line.Member m) known is =
      let listed : is_listed L (record { family = m.member.key.family; person = m.member.key.person }) ≡ true = known in
      rw (listed, is) (same_number (deductible p L m.member.key.family m.member.key.person))
  right_of (line.Claim r) known is = refl
  right_of (line.Total t) known is =
      let paid = same_number (out_of_pocket p L t.family) in
      let applied = is_printed t.deductible (family_deductible p L t.family) is.1 in
      rw (known, is.0, paid, applied) refl

  members_known : (ms : List Member) (ds : List ℕ) → All (λ m. is_listed L m.key ≡ true) ms
      → All IsKnown (member_lines ms ds)
  members_known [] ds listed = All-nil IsKnown
  members_known (m ∷ ms) [] listed = All-nil IsKnown
  members_known (m ∷ ms) (d ∷ ds) listed =
      All-cons IsKnown (line.Member (record { member = m; deductible = d })) (member_lines ms ds)
      (All-head (λ (n : Member). is_listed L n.key ≡ true) m ms listed)
      (members_known ms ds (All-tail (λ (n : Member). is_listed L n.key ≡ true) m ms listed))

  claims_known : (rows : List Row) → All IsKnown (map (λ r. line.Claim r) rows)
  claims_known [] = All-nil IsKnown
  claims_known (r ∷ rows) = All-cons IsKnown (line.Claim r) (map (λ s. line.Claim s) rows) tt (claims_known rows)

  totals_known : (ts : List TotalLine) → All (λ t. has_member L t.family ≡ true) ts
      → All IsKnown (map (λ t. line.Total t) ts)
  totals_known [] all = All-nil IsKnown
  totals_known (t ∷ ts) all = All-cons IsKnown (line.Total t) (map (λ s. line.Total s) ts)
      (All-head (λ (s : TotalLine). has_member L s.family ≡ true) t ts all)
      (totals_known ts (All-tail (λ (s : TotalLine). has_member L s.family ≡ true) t ts all))

-- ---- a whole file

pub all_known : (q : PrintedParts) → IsPrinted q → All (IsKnown q.head.period q.ledger) (lines_of q)
all_known q is =
    let p = q.head.period in
    let L = q.ledger in
    let Known : Line → Type 0 = IsKnown p L in
    All-append Known (member_lines L.members q.deductibles) (map (λ r. line.Claim r) L.rows ++ map (λ t. line.Total t) q.totals)
    (members_known p L L.members q.deductibles (all_listed L is.ledger))
    (All-append Known (map (λ r. line.Claim r) L.rows) (map (λ t. line.Total t) q.totals) (claims_known p L L.rows)
    (totals_known p L q.totals (passing (λ t. has_member L t.family) q.totals is.families)))

-- the first line that is found wrong
figure_wrong : (q : PrintedParts) → IsPrinted q → (at : ℕ) → first_wrong q ≡ Some at → IsWrongLine q (at + 2)
figure_wrong q is at found =
    let p = q.head.period in
    let L = q.ledger in
    let first = first_of (are_sums (unsummed q)) 0 at (lines_of q)
    (sym (position_from-zero (λ l. not (are_sums (unsummed q) l)) (lines_of q)) ∙ found) in
    let known : IsKnown p L first.item = All-head (IsKnown p L) first.item first.after
    (all_back (IsKnown p L) first.before (first.item ∷ first.after)
    (subst (All (IsKnown p L)) first.whole (all_known q is))) in
    let place : length first.before ≡ at = omega (arith, first.place) in
    subst (λ n. IsWrongLine q (n + 2)) place
    (wrong_figure first.before first.after first.item first.whole
    (All-weaker (IsRight p L) (HasSums p L) (sums_of p L) first.before first.right)
    (λ sums. let e : true ≡ false = sym (right_of p L first.item known sums) ∙ first.fails in cc))

-- a family without a total line
total_missing : (q : PrintedParts) → IsPrinted q → first_wrong q ≡ None → has_all_totals q ≡ false
    → IsWrongLine q (length (lines_of q) + 2)
total_missing q is none missing =
    let p = q.head.period in
    let L = q.ledger in
    let all : AllPassing (are_sums (unsummed q)) (lines_of q) = all_right (are_sums (unsummed q)) 0 (lines_of q)
    (sym (position_from-zero (λ l. not (are_sums (unsummed q) l)) (lines_of q)) ∙ none) in
    let one = one_fails (λ f. has_members L f ≡ true) (has_total q.totals) (families_of L.members) (all_inhabited L is.ledger)
    missing in
    let apart = none_has id_cmp id_total total_family q.totals one.0
    (item_at-free id_cmp id_total total_family q.totals one.0 one.2) in
    no_total one.0 (All-weaker (IsRight p L) (HasSums p L) (sums_of p L) (lines_of q) all) one.1
    (All-weaker (λ t. has_key id_cmp total_family one.0 t ≡ false) (λ t. ¬ (t.family ≡ one.0))
    (λ t other same.
    let e : true ≡ false = sym (ap is_eq (tied_itself id_total one.0)) ∙ ap (λ f. is_same f one.0) (sym same) ∙ other in cc)
    q.totals apart)

wrong_from_is : (q : PrintedParts) → IsPrinted q → (o : Option ℕ) → first_wrong q ≡ o → (n : ℕ) → wrong_from q o ≡ Some n
    → IsWrongLine q n
wrong_from_is q is (Some at) found n said =
    let place : at + 2 ≡ n = cc in
    subst (IsWrongLine q) place (figure_wrong q is at found)
wrong_from_is q is None found n said = elim (cases_Bool (has_all_totals q)) [
  | inl t ↦ absurd (let e : None ≡ Some n = rw t at said in cc)
  | inr f ↦
      let e : Some (length (lines_of q) + 2) ≡ Some n = rw f at said in
      let place : length (lines_of q) + 2 ≡ n = cc in
      subst (IsWrongLine q) place (total_missing q is found f)
]

pub wrong_line_is : (q : PrintedParts) → IsPrinted q → (n : ℕ) → wrong_line q ≡ Some n → IsWrongLine q n
wrong_line_is q is n said = wrong_from_is q is (first_wrong q) refl n said
