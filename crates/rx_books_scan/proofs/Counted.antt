-- A text of lines has a line feed for each of them.
use Rattle.std.proofs.Common.{◌≡◌, ℕ, ◌+◌, ◌≤◌, false, eqb, cond, List, [], ◌∷◌, ◌++◌, length}
use Rattle.std.proofs.Common.{refl, sym, ap, subst, ◌∙◌, arith, append-nil, length-append}
use Rattle.std.specs.List.{All, flat_map}
use Rattle.std.proofs.lemmas.List.{length-map}
use Rattle.std.proofs.lemmas.List.Elements.{All-head, All-tail}
use Rattle.std.proofs.lemmas.List.Sums.{sum_by-append}
use Rattle.rx_ledger.specs.declared.member.Member.{Member}
use Rattle.rx_ledger.specs.declared.row.Row.{Row}
use Rattle.rx_books_text.specs.declared.head.Head.{Head}
use Rattle.rx_books_text.specs.declared.line.Line.{Line}
use Rattle.rx_books_text.specs.declared.line.Line.TheVariants as line
use Rattle.rx_books_text.specs.declared.line.TotalLine.{TotalLine}
use Rattle.rx_books_text.specs.declared.version.Version.{Version}
use Rattle.rx_books_text.specs.LineFits.{IsPeriod, IsLine}
use Rattle.rx_books_text.specs.LineText.{head_text, line_text, ended}
use Rattle.rx_books_text.specs.Printed.{line_feeds, lines_of, member_lines, printed_text}
use Rattle.rx_books_text.proofs.Cuts.{Without}
use Rattle.rx_books_text.proofs.Feedless.{line_feedless}
use Rattle.rx_books_text.proofs.HeadLaws.{head_feedless}
use Rattle.rx_books_scan.specs.declared.lists.Lists.{Lists}
use Rattle.rx_books_scan.specs.declared.part.Part.{Part}
use Rattle.rx_books_scan.specs.Lists.{AreLists, BeginWith, claim_lines, lines_in, lines_text, total_lines}
use Rattle.rx_books_scan.specs.Parts.{IsMadeOf, part_lines, printed_lists}

feeds-append : (a b : List ℕ) → line_feeds (a ++ b) ≡ line_feeds a + line_feeds b
feeds-append a b = sum_by-append (λ (c : ℕ). cond (eqb c 10) 1 0) a b

feedless : (bs : List ℕ) → Without 10 bs → line_feeds bs ≡ 0
feedless [] none = refl
feedless (b ∷ bs) none =
    let P : ℕ → Type 0 = λ c. eqb c 10 ≡ false in
    let more = feedless bs (All-tail P b bs none) in
    rw (All-head P b bs none) (omega arith)

feeds-ended : (bs : List ℕ) → Without 10 bs → line_feeds (ended bs) ≡ 1
feeds-ended bs none =
    let one : line_feeds (10 ∷ []) ≡ 1 = refl in
    omega (arith, feeds-append bs (10 ∷ []), feedless bs none, one)

feeds-lines : (v : Version) (ls : List Line) → All (IsLine v) ls → line_feeds (lines_text v ls) ≡ length ls
feeds-lines v [] fits = refl
feeds-lines v (l ∷ ls) fits =
    let one = feeds-ended (line_text v l) (line_feedless v l (All-head (IsLine v) l ls fits)) in
    let more = feeds-lines v ls (All-tail (IsLine v) l ls fits) in
    omega (arith, feeds-append (ended (line_text v l)) (lines_text v ls), one, more)

length-member_lines : (ms : List Member) (ds : List ℕ) → length ds ≡ length ms → length (member_lines ms ds) ≡ length ms
length-member_lines [] ds same = refl
length-member_lines (m ∷ ms) [] same = absurd (omega arith)
length-member_lines (m ∷ ms) (d ∷ ds) same =
    let more = length-member_lines ms ds (omega arith) in
    omega (arith, more)

length-lines : (ms : List Member) (ds : List ℕ) (rows : List Row) (ts : List TotalLine) → length ds ≡ length ms
    → length (lines_in ms ds rows ts) ≡ length ms + length rows + length ts
length-lines ms ds rows ts same =
    omega (
      arith,
      length-append (member_lines ms ds) (claim_lines rows ++ total_lines ts),
      length-append (claim_lines rows) (total_lines ts),
      length-member_lines ms ds same,
      length-map rows (λ (r : Row). line.Claim r),
      length-map ts (λ (t : TotalLine). line.Total t),
    )

-- the lists of parts that are the lines after the head line are those of the text
pub are_lists : (text lines : List ℕ) (head : Head) (parts : List Part) (l : Lists)
    → IsPeriod head.period → text ≡ ended (head_text head) ++ lines
    → BeginWith head.version lines (flat_map part_lines parts) [] → IsMadeOf head parts l
    → AreLists text (printed_lists l)
are_lists text lines head parts l period whole front made =
    let version = ap (λ (h : Head). h.version) made.head in
    let fits : All (IsLine l.head.version) (lines_of (printed_lists l)) =
    subst (λ (ls : List Line). All (IsLine l.head.version) ls) (sym made.lines)
    (subst (λ (v : Version). All (IsLine v) (flat_map part_lines parts)) (sym version) front.fits) in
    let behind : lines ≡ lines_text l.head.version (lines_of (printed_lists l)) =
    front.whole ∙ append-nil (lines_text head.version (flat_map part_lines parts))
    ∙ (λ j. lines_text (sym version j) (sym made.lines j)) in
    let printed : text ≡ printed_text (printed_lists l) =
    whole ∙ (λ j. ended (head_text (sym made.head j)) ++ behind j) in
    let feeds : line_feeds (printed_text (printed_lists l)) ≤ 1_000_000 =
    omega (
      arith,
      feeds-append (ended (head_text l.head)) (lines_text l.head.version (lines_of (printed_lists l))),
      feeds-ended (head_text l.head) (head_feedless l.head),
      feeds-lines l.head.version (lines_of (printed_lists l)) fits,
      length-lines l.members l.deductibles.items l.rows l.totals made.one_each,
      made.few,
    ) in
    record {
      printed = printed;
      period = subst (λ (h : Head). IsPeriod h.period) (sym made.head) period;
      one_each = made.one_each;
      members_rise = made.members_rise;
      rows_rise = made.rows_rise;
      totals_rise = made.totals_rise;
      lines = fits;
      few = subst (λ (t : List ℕ). line_feeds t ≤ 1_000_000) (sym printed) feeds;
    }
