-- What can be printed is read again.
use Rattle.std.proofs.Common.{◌≡◌, ℕ, ◌+◌, true, List, [], ◌∷◌, ◌++◌, length, map, refl, sym}
use Rattle.std.proofs.Common.{ap, subst, ◌∙◌, arith, append_assoc, append-nil, Result, Ok}
use Rattle.std.specs.List.{All, flat_map, list_all}
use Rattle.std.specs.Ordering.{is_lt}
use Rattle.std.specs.declared.cmp.Ordering.{Ordering}
use Rattle.std.specs.declared.cmp.Ordering.TheVariants.{Less}
use Rattle.std.proofs.lemmas.Bool.{and_parts}
use Rattle.std.proofs.lemmas.List.Elements.{All-nil, All-cons, All-head, All-tail}
use Rattle.std.proofs.lemmas.Grind.{flat_map-append}
use Rattle.rx_sorted.specs.Ascending.{IsAscending, IsBelow, is_past}
use Rattle.rx_sorted.proofs.Edits.{put-past}
use Rattle.rx_fields.specs.Order.{id_cmp, key_cmp}
use Rattle.rx_ledger.specs.declared.member.Member.{Member}
use Rattle.rx_ledger.specs.declared.row.Row.{Row}
use Rattle.rx_ledger.specs.Ledger.{is_listed}
use Rattle.rx_ledger.specs.Members.{member_cmp, member_key}
use Rattle.rx_ledger.specs.Rows.{member_of_row, row_key}
use Rattle.rx_ledger.proofs.Orders.{key_total, member_total}
use Rattle.rx_books_text.specs.declared.fault.BooksFault.{BooksFault}
use Rattle.rx_books_text.specs.declared.head.Head.{Head}
use Rattle.rx_books_text.specs.declared.line.Line.{Line}
use Rattle.rx_books_text.specs.declared.line.Line.TheVariants as line
use Rattle.rx_books_text.specs.declared.line.TotalLine.{TotalLine}
use Rattle.rx_books_text.specs.Fault.{Gives}
use Rattle.rx_books_text.specs.LineFits.{IsLine}
use Rattle.rx_books_text.specs.LineText.{ended, head_text, line_text}
use Rattle.rx_books_text.specs.Printed.{PrintedParts, IsPrinted, has_member, member_lines, printed_text, total_family}
use Rattle.rx_books_text.specs.TextFault.{is_next, is_known, with_line, IsFront}
use Rattle.rx_books_text.specs.TextFault.IsFront.{headed, longer}
use Rattle.rx_books_text.specs.TextReading.{behind_head, found_line, lines, line_read, lines_read, printed_of, text_read}
use Rattle.rx_books_text.proofs.Cuts.{lines_over}
use Rattle.rx_books_text.proofs.HeadLaws.{head_again, head_feedless}
use Rattle.rx_books_text.proofs.LineLaws.{line_again}
use Rattle.rx_books_text.proofs.Feedless.{line_feedless}
use Rattle.rx_books_text.proofs.TextLaws.{ended_on}
use Rattle.rx_books_text.proofs.TextSteps.{few_read, head_step, lines_step}
use Rattle.rx_books_text.proofs.TextSteps as steps

-- ---- a front is read

taken_again : (n : ℕ) (p : PrintedParts) (l : Line) → IsLine p.head.version l → is_next p l ≡ true → is_known p l ≡ true
    → line_read n p (line_text p.head.version l) ≡ Ok (with_line p l)
unfolding line_read
taken_again n p l fits next known =
    ap (found_line n p) (line_again p.head.version l fits) ∙ rw (next, known) refl

-- what is read of a front is its parts
front_read : {bytes : List ℕ} {p : PrintedParts} {n : ℕ} → IsFront bytes p n → (rest : List ℕ)
    → text_read (lines (bytes ++ rest)) ≡ lines_read (n + 1) p (lines rest)
front_read (headed h period) rest =
    ap (λ (t : List ℕ). text_read (lines t)) (ended_on (head_text h) rest)
    ∙ ap text_read (lines_over (head_text h) rest (head_feedless h))
    ∙ head_step (head_text h) rest
    ∙ ap (λ o. behind_head o (lines rest)) (head_again h period)
front_read (longer {bytes} {p} {n} l front fits next known) rest =
    let t = line_text p.head.version l in
    ap (λ (s : List ℕ). text_read (lines s)) (append_assoc bytes (ended t) rest)
    ∙ front_read front (ended t ++ rest)
    ∙ ap (λ (s : List ℕ). lines_read (n + 1) p (lines s)) (ended_on t rest)
    ∙ ap (lines_read (n + 1) p) (lines_over t rest (line_feedless p.head.version l fits))
    ∙ lines_step (n + 1) p (with_line p l) t rest (taken_again (n + 1) p l fits next known)

-- ---- the lines in turn

module _ {X K : Type 0} (cmp : K → K → Ordering) (key : X → K) where
  below_in : (k : K) (xs ys : List X) (y : X) → IsBelow cmp key k (xs ++ y ∷ ys) → cmp k (key y) ≡ Less
  below_in k [] ys y b = b.0
  below_in k (x ∷ xs) ys y b = below_in k xs ys y b.1

  -- each item of an ascending list is past those before it
  past_of : (xs ys : List X) (y : X) → IsAscending cmp key (xs ++ y ∷ ys) → is_past cmp key xs (key y) ≡ true
  past_of [] ys y a = refl
  past_of (x ∷ xs) ys y a = rw (ap is_lt (below_in (key x) xs ys y a.0), past_of xs ys y a.1) refl

abbrev text_of : Head → List Line → List ℕ
text_of h ls = flat_map (λ l. ended (line_text h.version l)) ls

-- some bytes that are a front of these parts
abbrev Front : List ℕ → PrintedParts → Type 0
Front bytes p = (n : ℕ) × IsFront bytes p n

one_more : (bytes : List ℕ) (p q : PrintedParts) (l : Line) → Front bytes p → IsLine p.head.version l → is_next p l ≡ true
    → is_known p l ≡ true → with_line p l ≡ q → Front (bytes ++ ended (line_text p.head.version l)) q
one_more bytes p q l front fits next known is = (
  front.0 + 1,
  subst (λ (s : PrintedParts). IsFront (bytes ++ ended (line_text p.head.version l)) s (front.0 + 1)) is
      (longer l front.1 fits next known),
)

same_text : (h : Head) (bytes : List ℕ) (l : Line) (ls : List Line)
    → (bytes ++ ended (line_text h.version l)) ++ text_of h ls ≡ bytes ++ text_of h (l ∷ ls)
same_text h bytes l ls = append_assoc bytes (ended (line_text h.version l)) (text_of h ls)

abbrev parts : Head → List Member → List ℕ → List Row → List TotalLine → PrintedParts
parts h ms ds rows totals =
    record { head = h; ledger = record { members = ms; rows = rows }; deductibles = ds; totals = totals }

snoc : {A : Type 0} (xs ys : List A) (x : A) → (xs ++ x ∷ []) ++ ys ≡ xs ++ x ∷ ys
snoc xs ys x = append_assoc xs (x ∷ []) ys

run_members : (h : Head) (bytes : List ℕ) (done ms : List Member) (dones ds : List ℕ) → Front bytes (parts h done dones [] [])
    → length ds ≡ length ms → IsAscending member_cmp member_key (done ++ ms)
    → All (IsLine h.version) (member_lines ms ds)
    → Front (bytes ++ text_of h (member_lines ms ds)) (parts h (done ++ ms) (dones ++ ds) [] [])
run_members h bytes done [] dones [] front same rise fits =
    let text = append-nil bytes in
    let members = append-nil done in
    let figures = append-nil dones in
    rw (text, members, figures) front
run_members h bytes done [] dones (d ∷ ds) front same rise fits = absurd (omega arith)
run_members h bytes done (m ∷ ms) dones [] front same rise fits = absurd (omega arith)
run_members h bytes done (m ∷ ms) dones (d ∷ ds) front same rise fits =
    let l = line.Member (record { member = m; deductible = d }) in
    let past = past_of member_cmp member_key done ms m rise in
    let next : is_next (parts h done dones [] []) l ≡ true = past in
    let with_it : with_line (parts h done dones [] []) l ≡ parts h (done ++ m ∷ []) (dones ++ d ∷ []) [] [] =
    ap (λ xs. parts h xs (dones ++ d ∷ []) [] []) (put-past member_cmp member_total member_key done m past) in
    let more = one_more bytes (parts h done dones [] []) (parts h (done ++ m ∷ []) (dones ++ d ∷ []) [] []) l front
    (All-head (IsLine h.version) l (member_lines ms ds) fits) next refl with_it in
    let rest = run_members h (bytes ++ ended (line_text h.version l)) (done ++ m ∷ []) ms (dones ++ d ∷ []) ds more (omega arith)
    (subst (IsAscending member_cmp member_key) (sym (snoc done ms m)) rise)
    (All-tail (IsLine h.version) l (member_lines ms ds) fits) in
    rw (← same_text h bytes l (member_lines ms ds), ← snoc done ms m, ← snoc dones ds d) rest

run_claims : (h : Head) (bytes : List ℕ) (ms : List Member) (ds : List ℕ) (done rows : List Row)
    → Front bytes (parts h ms ds done []) → IsAscending key_cmp row_key (done ++ rows)
    → list_all (λ r. is_listed (record { members = ms; rows = done ++ rows }) (member_of_row r)) rows ≡ true
    → All (IsLine h.version) (map (λ r. line.Claim r) rows)
    → Front (bytes ++ text_of h (map (λ r. line.Claim r) rows)) (parts h ms ds (done ++ rows) [])
run_claims h bytes ms ds done [] front rise listed fits = rw (append-nil bytes, append-nil done) front
run_claims h bytes ms ds done (r ∷ rows) front rise listed fits =
    let l = line.Claim r in
    let others = map (λ (s : Row). line.Claim s) rows in
    let past = past_of key_cmp row_key done rows r rise in
    let known = and_parts _ _ listed in
    let with_it : with_line (parts h ms ds done []) l ≡ parts h ms ds (done ++ r ∷ []) [] =
    ap (λ xs. parts h ms ds xs []) (put-past key_cmp key_total row_key done r past) in
    let more = one_more bytes (parts h ms ds done []) (parts h ms ds (done ++ r ∷ []) []) l front
    (All-head (IsLine h.version) l others fits) past known.0 with_it in
    let rest = run_claims h (bytes ++ ended (line_text h.version l)) ms ds (done ++ r ∷ []) rows more
    (subst (IsAscending key_cmp row_key) (sym (snoc done rows r)) rise) known.1
    (All-tail (IsLine h.version) l others fits) in
    rw (← same_text h bytes l others, ← snoc done rows r) rest

pub run_totals : (h : Head) (bytes : List ℕ) (ms : List Member) (ds : List ℕ) (rows : List Row) (done totals : List TotalLine)
    → Front bytes (parts h ms ds rows done) → IsAscending id_cmp total_family (done ++ totals)
    → list_all (λ t. has_member (record { members = ms; rows = rows }) t.family) totals ≡ true
    → All (IsLine h.version) (map (λ t. line.Total t) totals)
    → Front (bytes ++ text_of h (map (λ t. line.Total t) totals)) (parts h ms ds rows (done ++ totals))
run_totals h bytes ms ds rows done [] front rise known fits = rw (append-nil bytes, append-nil done) front
run_totals h bytes ms ds rows done (t ∷ totals) front rise known fits =
    let l = line.Total t in
    let others = map (λ (s : TotalLine). line.Total s) totals in
    let past = past_of id_cmp total_family done totals t rise in
    let here = and_parts _ _ known in
    let more = one_more bytes (parts h ms ds rows done) (parts h ms ds rows (done ++ t ∷ [])) l front
    (All-head (IsLine h.version) l others fits) past here.0 refl in
    let rest = run_totals h (bytes ++ ended (line_text h.version l)) ms ds rows (done ++ t ∷ []) totals more
    (subst (IsAscending id_cmp total_family) (sym (snoc done totals t)) rise) here.1
    (All-tail (IsLine h.version) l others fits) in
    rw (← same_text h bytes l others, ← snoc done totals t) rest

-- ---- the whole text

all_front : {X : Type 0} (P : X → Type 0) (xs ys : List X) → All P (xs ++ ys) → All P xs
all_front P [] ys all = All-nil P
all_front P (x ∷ xs) ys all =
    All-cons P x xs (All-head P x (xs ++ ys) all) (all_front P xs ys (All-tail P x (xs ++ ys) all))

all_back : {X : Type 0} (P : X → Type 0) (xs ys : List X) → All P (xs ++ ys) → All P ys
all_back P [] ys all = all
all_back P (x ∷ xs) ys all = all_back P xs ys (All-tail P x (xs ++ ys) all)

-- what can be printed is a front of its text
printed_front : (p : PrintedParts) → IsPrinted p → Front (printed_text p) p
printed_front p is =
    let h = p.head in
    let ms = p.ledger.members in
    let rows = p.ledger.rows in
    let first = member_lines ms p.deductibles in
    let second = map (λ (r : Row). line.Claim r) rows in
    let third = map (λ (t : TotalLine). line.Total t) p.totals in
    let behind_first = all_back (IsLine h.version) first (second ++ third) is.lines in
    let start : Front (ended (head_text h)) (parts h [] [] [] []) = (1, headed h is.period) in
    let a = run_members h (ended (head_text h)) [] ms [] p.deductibles start is.one_each is.ledger.members_rise
    (all_front (IsLine h.version) first (second ++ third) is.lines) in
    let b = run_claims h (ended (head_text h) ++ text_of h first) ms p.deductibles [] rows a is.ledger.rows_rise
    is.ledger.whole (all_front (IsLine h.version) second third behind_first) in
    let c = run_totals h ((ended (head_text h) ++ text_of h first) ++ text_of h second) ms p.deductibles rows [] p.totals b
    is.totals_rise is.families (all_back (IsLine h.version) second third behind_first) in
    let line_of : Line → List ℕ = λ l. ended (line_text h.version l) in
    let text : ((ended (head_text h) ++ text_of h first) ++ text_of h second) ++ text_of h third ≡ printed_text p =
    append_assoc (ended (head_text h) ++ text_of h first) (text_of h second) (text_of h third)
    ∙ append_assoc (ended (head_text h)) (text_of h first) (text_of h second ++ text_of h third)
    ∙ ap (λ (t : List ℕ). ended (head_text h) ++ t)
    (ap (λ (t : List ℕ). text_of h first ++ t) (sym (flat_map-append line_of second third))
    ∙ sym (flat_map-append line_of first (second ++ third))) in
    subst (λ (t : List ℕ). Front t p) text c

-- what can be printed is read again
pub printed_again : (p : PrintedParts) → IsPrinted p → printed_of (printed_text p) ≡ Ok p
printed_again p is =
    let front = printed_front p is in
    let text = printed_text p in
    let none : List ℕ = [] in
    few_read text is.few
    ∙ ap (λ (t : List ℕ). text_read (lines t)) (sym (append-nil text))
    ∙ front_read front.1 none
    ∙ steps.lines_over (front.0 + 1) p none

-- ---- as a clause

pub reads : (text : List ℕ) (r : Result PrintedParts BooksFault) → Gives r (printed_of text)
    → (p : PrintedParts) → IsPrinted p → text ≡ printed_text p → Gives r (Ok p)
reads text r is p printed same = subst (Gives r) (ap printed_of same ∙ printed_again p printed) is
