-- A front of a text is the text of its parts, which can be printed.
use Rattle.std.proofs.Common.{◌≡◌, ℕ, ◌+◌, ◌≤◌, true, ltb, inl, inr, List, [], ◌∷◌, ◌++◌, length, map, refl, sym}
use Rattle.std.proofs.Common.{ap, subst, ◌∙◌, arith, append_assoc, append-nil, length-append, Result, Ok, Err}
use Rattle.std.specs.Prelude.{IfOk, IfErr, ◌&&◌}
use Rattle.std.specs.List.{All, flat_map, list_all}
use Rattle.std.proofs.lemmas.Bool.{and_parts, cases_Bool, eqb-true, ltb-false}
use Rattle.std.proofs.lemmas.List.{nil_from_length, map-append}
use Rattle.std.proofs.lemmas.List.Elements.{All-nil, All-push}
use Rattle.std.proofs.lemmas.List.Folds.{list_all-append}
use Rattle.std.proofs.lemmas.Grind.{flat_map-append}
use Rattle.rx_sorted.specs.Ascending.{IsAscending, is_past, put}
use Rattle.rx_sorted.proofs.Edits.{put-past}
use Rattle.rx_sorted.proofs.Kept.{IsAscending-push}
use Rattle.rx_fields.specs.Order.{id_cmp, key_cmp}
use Rattle.rx_ledger.specs.declared.member.Member.{Member}
use Rattle.rx_ledger.specs.declared.row.Row.{Row}
use Rattle.rx_ledger.specs.Ledger.{IsLedger}
use Rattle.rx_ledger.specs.Members.{member_cmp, member_key}
use Rattle.rx_ledger.specs.Rows.{row_key}
use Rattle.rx_ledger.proofs.Ledgers.{IsLedger-with_member, IsLedger-with_row}
use Rattle.rx_ledger.proofs.Orders.{id_total, key_total, member_total}
use Rattle.rx_books_text.specs.declared.fault.BooksFault.{BooksFault}
use Rattle.rx_books_text.specs.declared.head.Head.{Head}
use Rattle.rx_books_text.specs.declared.line.Line.{Line}
use Rattle.rx_books_text.specs.declared.line.Line.TheVariants as line
use Rattle.rx_books_text.specs.declared.line.MemberLine.{MemberLine}
use Rattle.rx_books_text.specs.declared.line.TotalLine.{TotalLine}
use Rattle.rx_books_text.specs.Fault.{UnlessMemory, Gives}
use Rattle.rx_books_text.specs.LineFits.{IsLine, IsPeriod}
use Rattle.rx_books_text.specs.LineText.{ended, head_text, line_text}
use Rattle.rx_books_text.specs.Printed.{PrintedParts, IsPrinted, has_member, line_feeds, lines_of, member_lines, printed_text, total_family}
use Rattle.rx_books_text.specs.TextFault.{is_nil, is_next, is_known, with_line, IsFront, HasFault}
use Rattle.rx_books_text.specs.TextFault.IsFront.{headed, longer}
use Rattle.rx_books_text.specs.TextReading.{printed_of}
use Rattle.rx_books_text.proofs.TextLaws.{IsReading, reading}
use Rattle.rx_books_text.proofs.TextSteps.{unless_so}

-- ---- one line more at the end

nil_of : {A : Type 0} (xs : List A) → is_nil xs ≡ true → xs ≡ []
nil_of xs is = nil_from_length xs (eqb-true (length xs) 0 is)

member_lines-push : (ms : List Member) (ds : List ℕ) (m : Member) (d : ℕ) → length ds ≡ length ms
    → member_lines (ms ++ m ∷ []) (ds ++ d ∷ []) ≡ member_lines ms ds ++ line.Member (record { member = m; deductible = d }) ∷ []
member_lines-push [] [] m d same = refl
member_lines-push [] (e ∷ ds) m d same = absurd (omega arith)
member_lines-push (x ∷ ms) [] m d same = absurd (omega arith)
member_lines-push (x ∷ ms) (e ∷ ds) m d same =
    ap (λ ls. line.Member (record { member = x; deductible = e }) ∷ ls) (member_lines-push ms ds m d (omega arith))

abbrev claims : List Row → List Line
claims rows = map (λ r. line.Claim r) rows

abbrev total_lines : List TotalLine → List Line
total_lines totals = map (λ t. line.Total t) totals

abbrev IsPushed : PrintedParts → Line → Type 0
IsPushed p l = lines_of (with_line p l) ≡ lines_of p ++ l ∷ []

member_pushed : (p : PrintedParts) (m : MemberLine) → length p.deductibles ≡ length p.ledger.members
    → is_next p (line.Member m) ≡ true → IsPushed p (line.Member m)
member_pushed p m same next =
    let parts = and_parts (is_nil p.ledger.rows && is_nil p.totals) (is_past member_cmp member_key p.ledger.members m.member.key) next in
    let nils = and_parts (is_nil p.ledger.rows) (is_nil p.totals) parts.0 in
    let none : claims p.ledger.rows ++ total_lines p.totals ≡ [] =
    (λ j. claims (nil_of p.ledger.rows nils.0 j) ++ total_lines (nil_of p.totals nils.1 j)) in
    let front = member_lines p.ledger.members p.deductibles in
    let one : member_lines (put member_cmp member_key p.ledger.members m.member) (p.deductibles ++ m.deductible ∷ [])
    ≡ front ++ line.Member m ∷ [] =
    ap (λ ms. member_lines ms (p.deductibles ++ m.deductible ∷ []))
    (put-past member_cmp member_total member_key p.ledger.members m.member parts.1)
    ∙ member_lines-push p.ledger.members p.deductibles m.member m.deductible same in
    (λ j. one j ++ none j) ∙ append-nil (front ++ line.Member m ∷ [])
    ∙ sym (ap (λ ls. (front ++ ls) ++ line.Member m ∷ []) none ∙ ap (λ ls. ls ++ line.Member m ∷ []) (append-nil front))

claim_pushed : (p : PrintedParts) (r : Row) → is_next p (line.Claim r) ≡ true → IsPushed p (line.Claim r)
claim_pushed p r next =
    let parts = and_parts (is_nil p.totals) (is_past key_cmp row_key p.ledger.rows r.key) next in
    let none : total_lines p.totals ≡ [] = ap total_lines (nil_of p.totals parts.0) in
    let front = member_lines p.ledger.members p.deductibles in
    let one : claims (put key_cmp row_key p.ledger.rows r) ≡ claims p.ledger.rows ++ line.Claim r ∷ [] =
    ap claims (put-past key_cmp key_total row_key p.ledger.rows r parts.1)
    ∙ map-append (λ (s : Row). line.Claim s) p.ledger.rows (r ∷ []) in
    (λ j. front ++ (one j ++ none j)) ∙ ap (λ ls. front ++ ls) (append-nil (claims p.ledger.rows ++ line.Claim r ∷ []))
    ∙ sym (append_assoc front (claims p.ledger.rows) (line.Claim r ∷ []))
    ∙ sym (ap (λ ls. (front ++ (claims p.ledger.rows ++ ls)) ++ line.Claim r ∷ []) none
    ∙ ap (λ ls. (front ++ ls) ++ line.Claim r ∷ []) (append-nil (claims p.ledger.rows)))

total_pushed : (p : PrintedParts) (t : TotalLine) → IsPushed p (line.Total t)
total_pushed p t =
    let front = member_lines p.ledger.members p.deductibles in
    ap (λ ls. front ++ (claims p.ledger.rows ++ ls)) (map-append (λ (s : TotalLine). line.Total s) p.totals (t ∷ []))
    ∙ ap (λ ls. front ++ ls) (sym (append_assoc (claims p.ledger.rows) (total_lines p.totals) (line.Total t ∷ [])))
    ∙ sym (append_assoc front (claims p.ledger.rows ++ total_lines p.totals) (line.Total t ∷ []))

-- ---- what can be printed

record IsWell (bytes : List ℕ) (p : PrintedParts) : Type 0 where
  text : bytes ≡ printed_text p
  period : IsPeriod p.head.period
  ledger : IsLedger p.ledger
  one_each : length p.deductibles ≡ length p.ledger.members
  totals_rise : IsAscending id_cmp total_family p.totals
  families : list_all (λ t. has_member p.ledger t.family) p.totals ≡ true
  lines : All (IsLine p.head.version) (lines_of p)

text_pushed : (h : Head) (ls ms : List Line) (l : Line) → ms ≡ ls ++ l ∷ []
    → (ended (head_text h) ++ flat_map (λ k. ended (line_text h.version k)) ls) ++ ended (line_text h.version l)
    ≡ ended (head_text h) ++ flat_map (λ k. ended (line_text h.version k)) ms
text_pushed h ls ms l is =
    let line_of : Line → List ℕ = λ k. ended (line_text h.version k) in
    append_assoc (ended (head_text h)) (flat_map line_of ls) (line_of l)
    ∙ ap (λ (t : List ℕ). ended (head_text h) ++ t)
    (ap (λ (t : List ℕ). flat_map line_of ls ++ t) (sym (append-nil (line_of l)))
    ∙ sym (flat_map-append line_of ls (l ∷ [])) ∙ ap (flat_map line_of) (sym is))

abbrev WellWith : List ℕ → PrintedParts → Line → Type 0
WellWith bytes p l = IsWell (bytes ++ ended (line_text p.head.version l)) (with_line p l)

line_well : (bytes : List ℕ) (p : PrintedParts) (l : Line) → IsWell bytes p → IsLine p.head.version l
    → is_next p l ≡ true → is_known p l ≡ true → WellWith bytes p l
line_well bytes p (line.Member m) is fits next known =
    let l = line.Member m in
    let parts = and_parts (is_nil p.ledger.rows && is_nil p.totals) (is_past member_cmp member_key p.ledger.members m.member.key) next in
    let nils = and_parts (is_nil p.ledger.rows) (is_nil p.totals) parts.0 in
    let pushed = member_pushed p m is.one_each next in
    let longer : length (put member_cmp member_key p.ledger.members m.member) ≡ length p.ledger.members + 1 =
    ap length (put-past member_cmp member_total member_key p.ledger.members m.member parts.1)
    ∙ length-append p.ledger.members (m.member ∷ []) in
    record {
      text = ap (λ (t : List ℕ). t ++ ended (line_text p.head.version l)) is.text
          ∙ text_pushed p.head (lines_of p) (lines_of (with_line p l)) l pushed;
      period = is.period;
      ledger = IsLedger-with_member p.ledger m.member is.ledger;
      one_each = omega (arith, is.one_each, longer, length-append p.deductibles (m.deductible ∷ []));
      totals_rise = is.totals_rise;
      families = ap (list_all (λ (t : TotalLine). has_member (with_line p l).ledger t.family)) (nil_of p.totals nils.1);
      lines = subst (All (IsLine p.head.version)) (sym pushed) (All-push (IsLine p.head.version) (lines_of p) l is.lines fits);
    }
line_well bytes p (line.Claim r) is fits next known =
    let l = line.Claim r in
    let pushed = claim_pushed p r next in
    record {
      text = ap (λ (t : List ℕ). t ++ ended (line_text p.head.version l)) is.text
          ∙ text_pushed p.head (lines_of p) (lines_of (with_line p l)) l pushed;
      period = is.period;
      ledger = IsLedger-with_row p.ledger r is.ledger known;
      one_each = is.one_each;
      totals_rise = is.totals_rise;
      families = is.families;
      lines = subst (All (IsLine p.head.version)) (sym pushed) (All-push (IsLine p.head.version) (lines_of p) l is.lines fits);
    }
line_well bytes p (line.Total t) is fits next known =
    let l = line.Total t in
    let pushed = total_pushed p t in
    record {
      text = ap (λ (s : List ℕ). s ++ ended (line_text p.head.version l)) is.text
          ∙ text_pushed p.head (lines_of p) (lines_of (with_line p l)) l pushed;
      period = is.period;
      ledger = is.ledger;
      one_each = is.one_each;
      totals_rise = IsAscending-push id_cmp id_total total_family p.totals t is.totals_rise next;
      families = list_all-append (λ s. has_member p.ledger s.family) p.totals (t ∷ []) ∙ rw (is.families, known) refl;
      lines = subst (All (IsLine p.head.version)) (sym pushed) (All-push (IsLine p.head.version) (lines_of p) l is.lines fits);
    }

front_well : {bytes : List ℕ} {p : PrintedParts} {n : ℕ} → IsFront bytes p n → IsWell bytes p
front_well (headed h period) = record {
  text = sym (append-nil (ended (head_text h)));
  period = period;
  ledger = record { members_rise = tt; rows_rise = tt; whole = refl };
  one_each = refl;
  totals_rise = tt;
  families = refl;
  lines = All-nil (IsLine h.version);
}
front_well (longer {bytes} {p} l front fits next known) = line_well bytes p l (front_well front) fits next known

pub printed : (text : List ℕ) (q : PrintedParts) (m : ℕ) → IsFront text q m → line_feeds text ≤ 1_000_000
    → (text ≡ printed_text q) × IsPrinted q
printed text q m front few =
    let is = front_well front in (
      is.text,
      record {
        period = is.period;
        ledger = is.ledger;
        one_each = is.one_each;
        totals_rise = is.totals_rise;
        families = is.families;
        lines = is.lines;
        few = subst (λ (t : List ℕ). line_feeds t ≤ 1_000_000) is.text few;
      },
    )

-- ---- as clauses

abbrev fine : PrintedParts → Result PrintedParts BooksFault
fine p = Ok p

few_of : (text : List ℕ) (p : PrintedParts) → printed_of text ≡ fine p → line_feeds text ≤ 1_000_000
few_of text p e = elim (cases_Bool (ltb 1_000_000 (line_feeds text))) [
  | inl many ↦ absurd (let none = rw many at e in cc)
  | inr other ↦ ltb-false _ _ other
]

pub read_ok : (text : List ℕ) (r : Result PrintedParts BooksFault) → Gives r (printed_of text)
    → IfOk r (λ p. (text ≡ printed_text p) × IsPrinted p)
read_ok text (Ok p) is =
    let front : IsReading text (fine p) = subst (IsReading text) is (reading text) in
    printed text p front.0 front.1 (few_of text p is)
read_ok text (Err f) is = tt

pub read_refused : (text : List ℕ) (r : Result PrintedParts BooksFault) → Gives r (printed_of text)
    → IfErr r (λ f. UnlessMemory f (HasFault text f))
read_refused text (Ok p) is = tt
read_refused text (Err f) is = unless_so f (λ e. subst (IsReading text) e (reading text)) is
