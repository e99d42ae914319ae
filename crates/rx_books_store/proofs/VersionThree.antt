-- What another version can print of a ledger, version 3 can print too, in as many lines.
use Rattle.std.proofs.Common.{◌≡◌, ℕ, ◌+◌, ◌≤◌, List, [], ◌∷◌, ◌++◌, length, map, eqb, true, false, cond, refl, sym, ap, ◌∙◌, inl, inr, arith}
use Rattle.std.specs.Prelude.{◌==◌}
use Rattle.std.specs.List.{All, flat_map}
use Rattle.std.proofs.lemmas.Bool.{cases_Bool}
use Rattle.std.proofs.lemmas.List.{length-map}
use Rattle.std.proofs.lemmas.List.Elements.{All-append, All-cons, All-head, All-map, All-nil, All-tail, All-weaker}
use Rattle.std.proofs.lemmas.List.Sums.{sum_by-append, sum_by-cons}
use Rattle.rx_fields.specs.Numbered.{Span, is_within}
use Rattle.rx_fields.specs.Order.{id_cmp}
use Rattle.rx_sorted.specs.Ascending.{IsAscending, IsBelow}
use Rattle.rx_ledger.specs.declared.member.Member.{Member}
use Rattle.rx_ledger.specs.declared.row.Row.{Row}
use Rattle.rx_ledger.specs.Ledger.{Ledger, rows_of}
use Rattle.rx_ledger.specs.Sums.{counted, deductible_paid, family_deductible_in, out_of_pocket_in, paid_by_patient}
use Rattle.rx_books_text.specs.declared.line.Line.{Line}
use Rattle.rx_books_text.specs.declared.line.Line.TheVariants as line
use Rattle.rx_books_text.specs.declared.line.TotalLine.{TotalLine}
use Rattle.rx_books_text.specs.declared.version.Version.{Version}
use Rattle.rx_books_text.specs.declared.version.Version.TheVariants.{Three}
use Rattle.rx_books_text.specs.LineFits.{IsClaimLine, IsLine, IsTotalLine}
use Rattle.rx_books_text.specs.LineText.{ended, head_text, line_text}
use Rattle.rx_books_text.specs.Printed.{IsPrinted, PrintedParts, has_member, line_feeds, lines_of, member_lines, printed_text, total_family}
use Rattle.rx_books_text.proofs.Cuts.{Without}
use Rattle.rx_books_text.proofs.Feedless.{line_feedless}
use Rattle.rx_books_text.proofs.HeadLaws.{head_feedless}
use Rattle.rx_books_store.specs.BooksFile.{IsBooksText}
use Rattle.rx_books_store.specs.BooksText.{books_text, claims_text, deductibles_of, families_of, parts_of, total_of}
use Rattle.rx_books_store.proofs.FamilyOrder.{families_rise, itself}
use Rattle.rx_books_store.proofs.Figured.{all_back, all_behind, all_front, all_inhabited, passes}
use Rattle.rx_books_store.proofs.Written.{claims-map}
use Rattle.rx_books_store.proofs.Wrong.{length-lines}

-- ---- the lines

-- a family's deductible is part of its out of pocket
deductible_within : (p : Span) (rows : List Row) → family_deductible_in p rows ≤ out_of_pocket_in p rows
deductible_within p [] = omega arith
deductible_within p (r ∷ rows) =
    let one : counted p deductible_paid r ≤ counted p paid_by_patient r = elim (cases_Bool (is_within p r.key.date)) [
      | inl t ↦ rw t (omega arith)
      | inr f ↦ rw f (omega arith)
    ] in
    let rest = deductible_within p rows in
    omega (arith, one, rest, sum_by-cons (counted p deductible_paid) r rows, sum_by-cons (counted p paid_by_patient) r rows)

claim_three : (v : Version) (r : Row) → IsClaimLine v r → IsClaimLine Three r
claim_three v r is = record {
  provider = is.provider;
  reference = is.reference;
  date = is.date;
  family = is.family;
  person = is.person;
  product = is.product;
  quantity = is.quantity;
  days = is.days;
  pricing = is.pricing;
  coinsurance = tt;
  number = is.number;
}

members_three : (v : Version) (ms : List Member) (ds : List ℕ) → All (IsLine v) (member_lines ms ds)
    → All (IsLine Three) (member_lines ms ds)
members_three v [] ds all = All-nil (IsLine Three)
members_three v (m ∷ ms) [] all = All-nil (IsLine Three)
members_three v (m ∷ ms) (d ∷ ds) all =
    let l = line.Member (record { member = m; deductible = d }) in
    All-cons (IsLine Three) l (member_lines ms ds) (All-head (IsLine v) l (member_lines ms ds) all)
    (members_three v ms ds (All-tail (IsLine v) l (member_lines ms ds) all))

claims_three : (v : Version) (rows : List Row) → All (IsLine v) (map (λ r. line.Claim r) rows)
    → All (IsLine Three) (map (λ r. line.Claim r) rows)
claims_three v rows all = All-map (IsLine Three) (λ r. line.Claim r) rows
    (All-weaker (IsClaimLine v) (IsClaimLine Three) (claim_three v) rows (all_behind (IsLine v) (λ r. line.Claim r) rows all))

module _ (v : Version) (p : Span) (L : Ledger) where
  total_three : (f : List ℕ) → IsTotalLine v (total_of v p L f) → IsTotalLine Three (total_of Three p L f)
  total_three f is =
      let less = deductible_within p (rows_of L f) in
      let short = is.out_of_pocket in
      record { family = is.family; out_of_pocket = is.out_of_pocket; deductible = omega (arith, less, short) }

  totals_three : (fs : List (List ℕ)) → All (IsLine v) (map (λ t. line.Total t) (map (total_of v p L) fs))
      → All (IsLine Three) (map (λ t. line.Total t) (map (total_of Three p L) fs))
  totals_three [] all = All-nil (IsLine Three)
  totals_three (f ∷ fs) all =
      let others = map (λ t. line.Total t) (map (total_of v p L) fs) in
      All-cons (IsLine Three) (line.Total (total_of Three p L f)) (map (λ t. line.Total t) (map (total_of Three p L) fs))
      (total_three f (All-head (IsLine v) (line.Total (total_of v p L f)) others all))
      (totals_three fs (All-tail (IsLine v) (line.Total (total_of v p L f)) others all))

  lines_three : All (IsLine v) (lines_of (parts_of v p L)) → All (IsLine Three) (lines_of (parts_of Three p L))
  lines_three all =
      let first = member_lines L.members (deductibles_of p L) in
      let second = map (λ r. line.Claim r) L.rows in
      let third = map (λ t. line.Total t) (map (total_of v p L) (families_of L.members)) in
      let thirds = map (λ t. line.Total t) (map (total_of Three p L) (families_of L.members)) in
      let behind = all_back (IsLine v) first (second ++ third) all in
      All-append (IsLine Three) first (second ++ thirds)
      (members_three v L.members (deductibles_of p L) (all_front (IsLine v) first (second ++ third) all))
      (All-append (IsLine Three) second thirds (claims_three v L.rows (all_front (IsLine v) second third behind))
      (totals_three (families_of L.members) (all_back (IsLine v) second third behind)))

-- ---- the total lines

below_totals : (v : Version) (p : Span) (L : Ledger) (k : List ℕ) (fs : List (List ℕ)) → IsBelow id_cmp itself k fs
    → IsBelow id_cmp total_family k (map (total_of v p L) fs)
below_totals v p L k [] below = tt
below_totals v p L k (f ∷ fs) below = (below.0, below_totals v p L k fs below.1)

rise_totals : (v : Version) (p : Span) (L : Ledger) (fs : List (List ℕ)) → IsAscending id_cmp itself fs
    → IsAscending id_cmp total_family (map (total_of v p L) fs)
rise_totals v p L [] rise = tt
rise_totals v p L (f ∷ fs) rise = (below_totals v p L f fs rise.0, rise_totals v p L fs rise.1)

-- ---- line feeds

feeds-append : (xs ys : List ℕ) → line_feeds (xs ++ ys) ≡ line_feeds xs + line_feeds ys
feeds-append xs ys = sum_by-append (λ b. cond (b == 10) 1 0) xs ys

no_feed : (t : List ℕ) → Without 10 t → line_feeds t ≡ 0
no_feed [] none = refl
no_feed (b ∷ t) none =
    let here : eqb b 10 ≡ false = All-head (λ c. eqb c 10 ≡ false) b t none in
    let none_here : cond (b == 10) 1 0 ≡ 0 = rw here refl in
    let none_later : line_feeds t ≡ 0 = no_feed t (All-tail (λ c. eqb c 10 ≡ false) b t none) in
    sum_by-cons (λ c. cond (c == 10) 1 0) b t ∙ (λ i. none_here i + none_later i)

one_feed : (t : List ℕ) → Without 10 t → line_feeds (ended t) ≡ 1
one_feed t none = omega (arith, feeds-append t (10 ∷ []), no_feed t none)

lines_feeds : (v : Version) (ls : List Line) → All (IsLine v) ls
    → line_feeds (flat_map (λ l. ended (line_text v l)) ls) ≡ length ls
lines_feeds v [] all = refl
lines_feeds v (l ∷ ls) all =
    let here = one_feed (line_text v l) (line_feedless v l (All-head (IsLine v) l ls all)) in
    let rest = lines_feeds v ls (All-tail (IsLine v) l ls all) in
    omega (arith, here, rest, feeds-append (ended (line_text v l)) (flat_map (λ k. ended (line_text v k)) ls))

text_feeds : (q : PrintedParts) → All (IsLine q.head.version) (lines_of q) → line_feeds (printed_text q) ≡ 1 + length (lines_of q)
text_feeds q all =
    let head = one_feed (head_text q.head) (head_feedless q.head) in
    let rest = lines_feeds q.head.version (lines_of q) all in
    omega (
      arith,
      head,
      rest,
      feeds-append (ended (head_text q.head)) (flat_map (λ l. ended (line_text q.head.version l)) (lines_of q)),
    )

as_many : (v w : Version) (p : Span) (L : Ledger) → length (lines_of (parts_of v p L)) ≡ length (lines_of (parts_of w p L))
as_many v w p L =
    let fs = families_of L.members in
    let one : length (deductibles_of p L) ≡ length L.members = simp length-map in
    let here : length (map (total_of v p L) fs) ≡ length fs = simp length-map in
    let there : length (map (total_of w p L) fs) ≡ length fs = simp length-map in
    omega (arith, length-lines (parts_of v p L) one, length-lines (parts_of w p L) one, here, there)

-- ---- the whole file

printed_three : (v : Version) (p : Span) (L : Ledger) → IsPrinted (parts_of v p L) → IsPrinted (parts_of Three p L)
printed_three v p L is =
    let fs = families_of L.members in
    let lines = lines_three v p L is.lines in
    record {
      period = is.period;
      ledger = is.ledger;
      one_each = is.one_each;
      totals_rise = rise_totals Three p L fs (families_rise L.members is.ledger.members_rise);
      families = passes (λ t. has_member L t.family) (map (total_of Three p L) fs)
          (All-map (λ (t : TotalLine). has_member L t.family ≡ true) (total_of Three p L) fs (all_inhabited L is.ledger));
      lines = lines;
      few = omega (
        arith,
        is.few,
        text_feeds (parts_of v p L) is.lines,
        text_feeds (parts_of Three p L) lines,
        as_many v Three p L,
      );
    }

pub three : (text : List ℕ) (p : Span) (L : Ledger) → IsBooksText text p L → IsBooksText (books_text Three p L) p L
three text p L books = record { version = Three; is_text = refl; printed = printed_three books.version p L books.printed }

-- each claim of books has one line
pub claims_feeds : (text : List ℕ) (p : Span) (L : Ledger) → IsBooksText text p L → line_feeds (claims_text L.rows) ≡ length L.rows
claims_feeds text p L books =
    let first = member_lines L.members (deductibles_of p L) in
    let second : List Line = map (λ r. line.Claim r) L.rows in
    let third : List Line = map (λ t. line.Total t) (map (total_of Three p L) (families_of L.members)) in
    let lines = lines_three books.version p L books.printed.lines in
    let claims : All (IsLine Three) second = all_front (IsLine Three) second third (all_back (IsLine Three) first (second ++ third) lines) in
    let long : length second ≡ length L.rows = simp length-map in
    ap line_feeds (sym (claims-map L.rows)) ∙ lines_feeds Three second claims ∙ long
