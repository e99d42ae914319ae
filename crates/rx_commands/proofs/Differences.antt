-- Where no line is about a record, its replies are the same bytes; and the nets differ by what the lines come to.
use Rattle.std.proofs.Common.{◌≡◌, ◌≢◌, ◌↔◌, ◌≤◌, ℕ, suc, zero, ◌+◌, pos, ◌+ℤ◌, ◌-ℤ◌, Bool, true, false, List, [], ◌∷◌, ◌++◌, length}
use Rattle.std.proofs.Common.{map, refl, ap, sym, ◌∙◌, inl, inr, arith, slice_get, codes, Some, if◌then◌else◌, subst, Decides}
use Rattle.std.specs.List.{AllByRecursion, AllZip, flat_map, sum_by}
use Rattle.std.proofs.lemmas.Bool.{cases_Bool}
use Rattle.std.proofs.lemmas.Bool.Decides.{Decides-and}
use Rattle.std.proofs.lemmas.Int.{ints}
use Rattle.std.proofs.lemmas.List.{append_assoc, length-map, map-append}
use Rattle.std.proofs.lemmas.List.Sums.{sum_by-append, sum_by-cons}
use Rattle.rx_d0_reply.specs.Text.{group_text, header_text, reply_text}
use Rattle.rx_d0_values.specs.contracts.reply.AnswerPartialEq.TheImpl.{ghosts as answer_eq}
use Rattle.rx_d0_values.proofs.Decided.{answer_decides}
use Rattle.rx_d0_values.specs.declared.echo.EchoParts.{EchoParts}
use Rattle.rx_d0_values.specs.declared.reply.Answer.{Answer}
use Rattle.rx_d0_values.specs.declared.reply.Outcome.{Outcome}
use Rattle.rx_d0_values.specs.declared.reply.Outcome.TheVariants.{Rejected, Heard}
use Rattle.rx_d0_values.specs.declared.reply.Reply.{Reply}
use Rattle.rx_d0_values.specs.declared.transmission.Transmission.{Transmission}
use Rattle.rx_explain.specs.Spots.{item}
use Rattle.rx_explain.specs.declared.at.At.{At}
use Rattle.rx_report.specs.Lines.{answer_lines, answer_of, line_of, lines_from, record_lines}
use Rattle.rx_report.specs.declared.line.Line.{Line}
use Rattle.rx_settle.specs.Answers.{answers_in, paid_out, taken_back, tally}
use Rattle.rx_settle.specs.Settlement.{net}
use Rattle.rx_settle.specs.declared.tally.Tally.{Tally}
use Rattle.rx_commands.proofs.Counts.{Alike}
use Rattle.rx_commands.proofs.Items.{item_of}
use Rattle.rx_commands.specs.Differing.{Differing, Entry, HasNoLine, IsOne, accepted_in, are_one, change, differing_in, differing_of}
use Rattle.rx_commands.specs.Differing.{entries_of, gain, is_accepted, less, more, same_status}
use Rattle.rx_commands.specs.Lines.{at_of}

-- lines change, but keep place and answer
pub record Keeps (f : Line → Line) : Type 0 where
  pub at : (l : Line) → at_of (f l) ≡ at_of l
  pub answer : (l : Line) → (f l).answer ≡ l.answer

-- ---- the same transactions

same_ats : (place : ℕ) (t u : Transmission) (r s : Reply) (before : ℕ) (ones twos : List Answer) → length ones ≡ length twos
    → map at_of (answer_lines place t r before ones) ≡ map at_of (answer_lines place u s before twos)
same_ats place t u r s before [] [] e = refl
same_ats place t u r s before [] (b ∷ twos) e = absurd (omega arith)
same_ats place t u r s before (a ∷ ones) [] e = absurd (omega arith)
same_ats place t u r s before (a ∷ ones) (b ∷ twos) e =
    let rest : length ones ≡ length twos = omega arith in
    ap (λ (xs : List At). record { place = place; nth = before + 1 } ∷ xs) (same_ats place t u r s (before + 1) ones twos rest)

pub aligned : (place : ℕ) (ts us : List Transmission) (rs ss : List Reply) → length ts ≡ length rs → length us ≡ length ss
    → AllZip Alike rs ss → map at_of (lines_from place ts rs) ≡ map at_of (lines_from place us ss)
aligned place [] [] rs ss e g all = refl
aligned place [] (u ∷ us) [] [] e g all = absurd (omega arith)
aligned place [] (u ∷ us) [] (s ∷ ss) e g all = absurd all
aligned place [] (u ∷ us) (r ∷ rs) ss e g all = absurd (omega arith)
aligned place (t ∷ ts) us [] ss e g all = absurd (omega arith)
aligned place (t ∷ ts) us (r ∷ rs) [] e g all = absurd all
aligned place (t ∷ ts) [] (r ∷ rs) (s ∷ ss) e g all = absurd (omega arith)
aligned place (t ∷ ts) (u ∷ us) (r ∷ rs) (s ∷ ss) e g all =
    let left : length ts ≡ length rs = omega arith in
    let right : length us ≡ length ss = omega arith in
    map-append at_of (record_lines place t r) (lines_from (place + 1) ts rs)
    ∙ (λ j. same_ats place t u r s 0 (answers_in r.outcome) (answers_in s.outcome) all.0.count j
    ++ aligned (place + 1) ts us rs ss left right all.1 j)
    ∙ sym (map-append at_of (record_lines place u s) (lines_from (place + 1) us ss))

pub kept_ats : (f : Line → Line) → Keeps f → (ls : List Line) → map at_of (map f ls) ≡ map at_of ls
kept_ats f keeps [] = refl
kept_ats f keeps (l ∷ ls) = λ j. keeps.at l j ∷ kept_ats f keeps ls j

pub kept_answers : (f : Line → Line) → Keeps f → (ls : List Line) → map answer_of (map f ls) ≡ map answer_of ls
kept_answers f keeps [] = refl
kept_answers f keeps (l ∷ ls) = λ j. keeps.answer l j ∷ kept_answers f keeps ls j

-- ---- lists that are put together

differing-append : (ts us vs ws : List Entry) → length ts ≡ length us
    → differing_of (ts ++ vs) (us ++ ws) ≡ differing_of ts us ++ differing_of vs ws
differing-append [] [] vs ws e = refl
differing-append [] (u ∷ us) vs ws e = absurd (omega arith)
differing-append (t ∷ ts) [] vs ws e = absurd (omega arith)
differing-append (t ∷ ts) (u ∷ us) vs ws e =
    let rest : length ts ≡ length us = omega arith in
    ap (λ (xs : List Differing). differing_in t u ++ xs) (differing-append ts us vs ws rest)
    ∙ sym (append_assoc (differing_in t u) (differing_of ts us) (differing_of vs ws))

all_left : {X : Type 0} (P : X → Type 0) (xs ys : List X) → AllByRecursion P (xs ++ ys) → AllByRecursion P xs
all_left P [] ys all = tt
all_left P (x ∷ xs) ys all = (all.0, all_left P xs ys all.1)

all_right : {X : Type 0} (P : X → Type 0) (xs ys : List X) → AllByRecursion P (xs ++ ys) → AllByRecursion P ys
all_right P [] ys all = all
all_right P (x ∷ xs) ys all = all_right P xs ys all.1

-- ---- two answers

status_decides : (a b : Bool) → Decides (same_status a b) (a ≡ b)
status_decides true true = (λ e. refl, λ e. refl)
status_decides true false = (λ e. sym e, λ e. sym e)
status_decides false true = (λ e. e, λ e. e)
status_decides false false = (λ e. refl, λ e. refl)

-- what is said of each line where none is at a place
abbrev Elsewhere : ℕ → Differing → Type 0
Elsewhere place d = d.given.place ≢ place

decided : (t u : Entry) → (are_one t u ≡ true) ↔ IsOne t u
decided t u =
    Decides-and (same_status t.accepted u.accepted) (answer_eq.eq t.line.answer u.line.answer)
    (status_decides t.accepted u.accepted) (answer_decides t.line.answer u.line.answer)

-- they have no line exactly where they are one
pub exact : (t u : Entry) → (differing_in t u ≡ []) ↔ IsOne t u
exact t u = (
  λ none. elim (cases_Bool (are_one t u)) [
    | inl one ↦ (decided t u).0 one
    | inr apart ↦ let some = rw apart at none in absurd (cc)
  ],
  λ one. let same = (decided t u).1 one in rw same refl,
)

-- where the line that is given is at a place without a line, the two are one
are_one_there : (place : ℕ) (t u : Entry) (ds : List Differing) → t.line.place ≡ place
    → HasNoLine place (differing_in t u ++ ds) → IsOne t u
are_one_there place t u ds at none = elim (cases_Bool (are_one t u)) [
  | inl one ↦ (decided t u).0 one
  | inr apart ↦ let all = rw apart at none in absurd (all.0 at)
]

-- ---- one record

-- a line, with the status that its place has
abbrev pub entry_at : (ℕ → Bool) → Line → Entry
entry_at status l = record { accepted = status l.place; line = l }

module _ (f g : Line → Line) (keeps : Keeps f) (others : Keeps g) (status other : ℕ → Bool) (place : ℕ) (t u : Transmission)
    (r s : Reply) where
  abbrev entry : ℕ → Answer → Entry
  entry before a = entry_at status (f (line_of place t r before a))

  abbrev other_entry : ℕ → Answer → Entry
  other_entry before b = entry_at other (g (line_of place u s before b))

  abbrev entries : ℕ → List Answer → List Entry
  entries before ones = map (entry_at status) (map f (answer_lines place t r before ones))

  abbrev other_entries : ℕ → List Answer → List Entry
  other_entries before twos = map (entry_at other) (map g (answer_lines place u s before twos))

  one_entry : (before : ℕ) (a b : Answer) (ds : List Differing)
      → HasNoLine place (differing_in (entry before a) (other_entry before b) ++ ds)
      → IsOne (entry before a) (other_entry before b)
  one_entry before a b ds none =
      are_one_there place (entry before a) (other_entry before b) ds
      (ap (λ (at : At). at.place) (keeps.at (line_of place t r before a))) none

  pub same_answers : (before : ℕ) (ones twos : List Answer) → length ones ≡ length twos
      → HasNoLine place (differing_of (entries before ones) (other_entries before twos)) → ones ≡ twos
  same_answers before [] [] e none = refl
  same_answers before [] (b ∷ twos) e none = absurd (omega arith)
  same_answers before (a ∷ ones) [] e none = absurd (omega arith)
  same_answers before (a ∷ ones) (b ∷ twos) e none =
      let rest : length ones ≡ length twos = omega arith in
      let ds = differing_of (entries (before + 1) ones) (other_entries (before + 1) twos) in
      let same : a ≡ b =
      sym (keeps.answer (line_of place t r before a)) ∙ (one_entry before a b ds none).1
      ∙ others.answer (line_of place u s before b) in
      let further =
      same_answers (before + 1) ones twos rest (all_right (Elsewhere place) (differing_in (entry before a) (other_entry before b)) ds none) in
      λ j. same j ∷ further j

  pub same_header : (ones twos : List Answer) → length ones ≡ length twos → 1 ≤ length ones
      → HasNoLine place (differing_of (entries 0 ones) (other_entries 0 twos)) → status place ≡ other place
  same_header [] twos e some none = absurd (omega arith)
  same_header (a ∷ ones) [] e some none = absurd (omega arith)
  same_header (a ∷ ones) (b ∷ twos) e some none =
      sym (ap (λ (at : At). status at.place) (keeps.at (line_of place t r 0 a)))
      ∙ (one_entry 0 a b (differing_of (entries 1 ones) (other_entries 1 twos)) none).0
      ∙ ap (λ (at : At). other at.place) (others.at (line_of place u s 0 b))

-- ---- the bytes of a reply

text_by : EchoParts → Bool → List Answer → List ℕ
text_by e h ones =
    header_text e (length ones) (if h then codes "A" else codes "R") ++ flat_map group_text ones

by_outcome : (e : EchoParts) (o : Outcome)
    → reply_text (record { echo = e; outcome = o }) ≡ text_by e (is_accepted o) (answers_in o)
unfolding text_by
by_outcome e (Rejected r) = refl
by_outcome e (Heard answers) = refl

text_is : (r : Reply) → reply_text r ≡ text_by r.echo (is_accepted r.outcome) (answers_in r.outcome)
text_is r = by_outcome r.echo r.outcome

same_text : (r s : Reply) → r.echo ≡ s.echo → is_accepted r.outcome ≡ is_accepted s.outcome
    → answers_in r.outcome ≡ answers_in s.outcome → reply_text r ≡ reply_text s
same_text r s e h ones =
    text_is r ∙ (λ j. text_by (e j) (h j) (ones j)) ∙ sym (text_is s)

-- ---- all records

-- the statuses of the headers of these replies, the first of them at a place
abbrev pub AreStatuses : (ℕ → Bool) → ℕ → List Reply → Type 0
AreStatuses status place [] = Unit {0}
AreStatuses status place (r ∷ rs) = (status place ≡ is_accepted r.outcome) × AreStatuses status (place + 1) rs

statuses_from : (status : ℕ → Bool) (place : ℕ) (rs : List Reply)
    → ((k : ℕ) → status (place + k) ≡ accepted_in (slice_get rs k)) → AreStatuses status place rs
statuses_from status place [] each = tt
statuses_from status place (r ∷ rs) each =
    let here : place ≡ place + zero = omega arith in
    let on : (k : ℕ) → place + 1 + k ≡ place + suc k = λ k. omega arith in (
      ap status here ∙ each zero,
      statuses_from status (place + 1) rs (λ k. ap status (on k) ∙ each (suc k)),
    )

-- that of the record at each place
abbrev pub status_in : List Reply → ℕ → Bool
status_in rs place = accepted_in (item rs place)

statuses_of : (rs : List Reply) → AreStatuses (status_in rs) 1 rs
statuses_of rs =
    let at : (k : ℕ) → 1 + k ≡ suc k = λ k. omega arith in
    statuses_from (status_in rs) 1 rs (λ k. ap (status_in rs) (at k) ∙ ap accepted_in (item_of rs k))

-- the lines of some records with the statuses of their headers, the first at a place
abbrev entries_from : (Line → Line) → (ℕ → Bool) → ℕ → List Transmission → List Reply → List Entry
entries_from f status place ts rs = map (entry_at status) (map f (lines_from place ts rs))

-- those of its first record
abbrev first_entries : (Line → Line) → (ℕ → Bool) → ℕ → Transmission → Reply → List Entry
first_entries f status place t r = map (entry_at status) (map f (record_lines place t r))

length-lines : (place : ℕ) (t : Transmission) (r : Reply) (before : ℕ) (ones : List Answer)
    → length (answer_lines place t r before ones) ≡ length ones
length-lines place t r before [] = refl
length-lines place t r before (a ∷ ones) = ap suc (length-lines place t r (before + 1) ones)

length-first : (f : Line → Line) (status : ℕ → Bool) (place : ℕ) (t : Transmission) (r : Reply)
    → length (first_entries f status place t r) ≡ length (answers_in r.outcome)
length-first f status place t r =
    length-map (map f (record_lines place t r)) (entry_at status) ∙ length-map (record_lines place t r) f
    ∙ length-lines place t r 0 (answers_in r.outcome)

parted : (f : Line → Line) (status : ℕ → Bool) (place : ℕ) (t : Transmission) (ts : List Transmission) (r : Reply)
    (rs : List Reply)
    → entries_from f status place (t ∷ ts) (r ∷ rs)
    ≡ first_entries f status place t r ++ entries_from f status (place + 1) ts rs
parted f status place t ts r rs =
    ap (map (entry_at status)) (map-append f (record_lines place t r) (lines_from (place + 1) ts rs))
    ∙ map-append (entry_at status) (map f (record_lines place t r)) (map f (lines_from (place + 1) ts rs))

module _ (f g : Line → Line) (keeps : Keeps f) (others : Keeps g) (status other : ℕ → Bool) where
  as_many : (place : ℕ) (t u : Transmission) (r s : Reply) → Alike r s
      → length (first_entries f status place t r) ≡ length (first_entries g other place u s)
  as_many place t u r s alike =
      length-first f status place t r ∙ alike.count ∙ sym (length-first g other place u s)

  -- the lines of two lists of records are those of the first two, and those of the others
  parted_both : (place : ℕ) (t u : Transmission) (ts us : List Transmission) (r s : Reply) (rs ss : List Reply) → Alike r s
      → differing_of (entries_from f status place (t ∷ ts) (r ∷ rs)) (entries_from g other place (u ∷ us) (s ∷ ss))
      ≡ differing_of (first_entries f status place t r) (first_entries g other place u s)
      ++ differing_of (entries_from f status (place + 1) ts rs) (entries_from g other (place + 1) us ss)
  parted_both place t u ts us r s rs ss alike =
      (λ j. differing_of (parted f status place t ts r rs j) (parted g other place u us s ss j))
      ∙ differing-append (first_entries f status place t r) (first_entries g other place u s)
      (entries_from f status (place + 1) ts rs) (entries_from g other (place + 1) us ss) (as_many place t u r s alike)

  first_same : (place : ℕ) (t u : Transmission) (r s : Reply) → Alike r s → status place ≡ is_accepted r.outcome
      → other place ≡ is_accepted s.outcome
      → HasNoLine place (differing_of (first_entries f status place t r) (first_entries g other place u s))
      → reply_text r ≡ reply_text s
  first_same place t u r s alike mine theirs none =
      same_text r s alike.echo
      (sym mine
      ∙ same_header f g keeps others status other place t u r s (answers_in r.outcome) (answers_in s.outcome) alike.count
      alike.some none
      ∙ theirs)
      (same_answers f g keeps others status other place t u r s 0 (answers_in r.outcome) (answers_in s.outcome) alike.count none)

  same_replies : (place : ℕ) (ts us : List Transmission) (rs ss : List Reply) → length ts ≡ length rs
      → length us ≡ length ss → AllZip Alike rs ss → AreStatuses status place rs → AreStatuses other place ss → (before : ℕ)
      → HasNoLine (place + before) (differing_of (entries_from f status place ts rs) (entries_from g other place us ss))
      → slice_get (map reply_text rs) before ≡ slice_get (map reply_text ss) before
  same_replies place ts us [] [] e i all mine theirs before none = refl
  same_replies place ts us [] (s ∷ ss) e i all mine theirs before none = absurd all
  same_replies place ts us (r ∷ rs) [] e i all mine theirs before none = absurd all
  same_replies place [] us (r ∷ rs) (s ∷ ss) e i all mine theirs before none = absurd (omega arith)
  same_replies place (t ∷ ts) [] (r ∷ rs) (s ∷ ss) e i all mine theirs before none = absurd (omega arith)
  same_replies place (t ∷ ts) (u ∷ us) (r ∷ rs) (s ∷ ss) e i all mine theirs zero none =
      let ds = differing_of (first_entries f status place t r) (first_entries g other place u s) in
      let es = differing_of (entries_from f status (place + 1) ts rs) (entries_from g other (place + 1) us ss) in
      let at : place + zero ≡ place = omega arith in
      let both : HasNoLine (place + zero) (ds ++ es) =
      subst (HasNoLine (place + zero)) (parted_both place t u ts us r s rs ss all.0) none in
      let here : HasNoLine place (ds ++ es) = subst (λ n. HasNoLine n (ds ++ es)) at both in
      ap Some (first_same place t u r s all.0 mine.0 theirs.0 (all_left (Elsewhere place) ds es here))
  same_replies place (t ∷ ts) (u ∷ us) (r ∷ rs) (s ∷ ss) e i all mine theirs (suc before) none =
      let left : length ts ≡ length rs = omega arith in
      let right : length us ≡ length ss = omega arith in
      let ds = differing_of (first_entries f status place t r) (first_entries g other place u s) in
      let es = differing_of (entries_from f status (place + 1) ts rs) (entries_from g other (place + 1) us ss) in
      let both : HasNoLine (place + suc before) (ds ++ es) =
      subst (HasNoLine (place + suc before)) (parted_both place t u ts us r s rs ss all.0) none in
      let at : place + suc before ≡ place + 1 + before = omega arith in
      same_replies (place + 1) ts us rs ss left right all.1 mine.1 theirs.1 before
      (subst (λ n. HasNoLine n es) at (all_right (Elsewhere (place + suc before)) ds es both))

-- where the lines are those of these records
module _ (f g : Line → Line) (keeps : Keeps f) (others : Keeps g) where
  pub same_by_lines : (ts us : List Transmission) (rs ss : List Reply) → length ts ≡ length rs → length us ≡ length ss
      → AllZip Alike rs ss → (ls ms : List Line) → ls ≡ map f (lines_from 1 ts rs) → ms ≡ map g (lines_from 1 us ss)
      → (place : ℕ) → HasNoLine place (differing_of (entries_of rs ls) (entries_of ss ms))
      → item (map reply_text rs) place ≡ item (map reply_text ss) place
  same_by_lines ts us rs ss left right all ls ms ls_are ms_are zero none = refl
  same_by_lines ts us rs ss left right all ls ms ls_are ms_are (suc before) none =
      let turn : suc before ≡ 1 + before = omega arith in
      let found : List Differing =
      differing_of (entries_from f (status_in rs) 1 ts rs) (entries_from g (status_in ss) 1 us ss) in
      let so : differing_of (entries_of rs ls) (entries_of ss ms) ≡ found =
      λ j. differing_of (entries_of rs (ls_are j)) (entries_of ss (ms_are j)) in
      let here : HasNoLine (suc before) found = subst (HasNoLine (suc before)) so none in
      item_of (map reply_text rs) before
      ∙ same_replies f g keeps others (status_in rs) (status_in ss) 1 ts us rs ss left right all (statuses_of rs) (statuses_of ss)
      before (subst (λ n. HasNoLine n found) turn here)
      ∙ sym (item_of (map reply_text ss) before)

-- ---- the nets

pub entry_answers : (replies : List Reply) (ls : List Line)
    → map (λ (t : Entry). t.line.answer) (entries_of replies ls) ≡ map answer_of ls
entry_answers replies [] = refl
entry_answers replies (l ∷ ls) = ap (λ (xs : List Answer). l.answer ∷ xs) (entry_answers replies ls)

sum_first : {X : Type 0} (f : X → ℕ) (x : X) (xs : List X) → sum_by f (x ∷ xs) ≡ f x + sum_by f xs
sum_first f x xs = sum_by-cons f x xs

-- two differences put together
two_apart : (a b c d : ℕ) → pos (a + b) -ℤ pos (c + d) ≡ (pos a -ℤ pos c) +ℤ (pos b -ℤ pos d)
two_apart a b c d = omega (arith, ints)

-- the lines together, by what is paid more and what less
pub sums_apart : (ds : List Differing) → pos (sum_by more ds) -ℤ pos (sum_by less ds) ≡ change ds
sums_apart [] = refl
sums_apart (d ∷ ds) =
    (λ j. pos (sum_first more d ds j) -ℤ pos (sum_first less d ds j))
    ∙ two_apart (more d) (sum_by more ds) (less d) (sum_by less ds)
    ∙ ap (λ n. gain d +ℤ n) (sums_apart ds)

pub moved : (ts us : List Entry) → length ts ≡ length us
    → sum_by paid_out (map (λ (t : Entry). t.line.answer) us) + sum_by taken_back (map (λ (t : Entry). t.line.answer) ts)
    + sum_by less (differing_of ts us)
    ≡ sum_by paid_out (map (λ (t : Entry). t.line.answer) ts) + sum_by taken_back (map (λ (t : Entry). t.line.answer) us)
    + sum_by more (differing_of ts us)
moved [] [] e = refl
moved [] (u ∷ us) e = absurd (omega arith)
moved (t ∷ ts) [] e = absurd (omega arith)
moved (t ∷ ts) (u ∷ us) e =
    let rest : length ts ≡ length us = omega arith in
    let before = moved ts us rest in
    let p = sum_first paid_out t.line.answer (map (λ (x : Entry). x.line.answer) ts) in
    let q = sum_first paid_out u.line.answer (map (λ (x : Entry). x.line.answer) us) in
    let v = sum_first taken_back t.line.answer (map (λ (x : Entry). x.line.answer) ts) in
    let w = sum_first taken_back u.line.answer (map (λ (x : Entry). x.line.answer) us) in
    let l = sum_by-append less (differing_in t u) (differing_of ts us) in
    let m = sum_by-append more (differing_in t u) (differing_of ts us) in
    elim (cases_Bool (are_one t u)) [
      | inl one ↦
          let same = ((decided t u).0 one).1 in
          let out : paid_out t.line.answer ≡ paid_out u.line.answer = ap paid_out same in
          let back : taken_back t.line.answer ≡ taken_back u.line.answer = ap taken_back same in
          let no_less : sum_by less (differing_in t u) ≡ 0 = rw one refl in
          let no_more : sum_by more (differing_in t u) ≡ 0 = rw one refl in
          omega arith
      | inr apart ↦
          let its_less : sum_by less (differing_in t u) ≡ paid_out t.line.answer + taken_back u.line.answer = rw apart (omega arith) in
          let its_more : sum_by more (differing_in t u) ≡ paid_out u.line.answer + taken_back t.line.answer = rw apart (omega arith) in
          omega arith
    ]

-- the same of lists that are known to be their answers
moved_by : (ts us : List Entry) (ones twos : List Answer) → map (λ (t : Entry). t.line.answer) ts ≡ ones
    → map (λ (t : Entry). t.line.answer) us ≡ twos → length ts ≡ length us
    → sum_by paid_out twos + sum_by taken_back ones + sum_by less (differing_of ts us)
    ≡ sum_by paid_out ones + sum_by taken_back twos + sum_by more (differing_of ts us)
moved_by ts us ones twos one two e =
    (λ j. sum_by paid_out (sym two j) + sum_by taken_back (sym one j) + sum_by less (differing_of ts us))
    ∙ moved ts us e
    ∙ (λ j. sum_by paid_out (one j) + sum_by taken_back (two j) + sum_by more (differing_of ts us))

apart_by : (out back out2 back2 fewer further : ℕ) → out2 + back + fewer ≡ out + back2 + further
    → (pos out2 -ℤ pos back2) -ℤ (pos out -ℤ pos back) ≡ pos further -ℤ pos fewer
apart_by out back out2 back2 fewer further e = omega (arith, ints)

-- the nets of two settlements differ by what the lines come to
pub nets_apart : (ts us : List Entry) (ones twos : List Answer) (given changed : Tally) → given ≡ tally ones
    → changed ≡ tally twos → map (λ (t : Entry). t.line.answer) ts ≡ ones → map (λ (t : Entry). t.line.answer) us ≡ twos
    → length ts ≡ length us → net changed -ℤ net given ≡ change (differing_of ts us)
nets_apart ts us ones twos given changed given_is changed_is one two e =
    (λ j. net (changed_is j) -ℤ net (given_is j))
    ∙ apart_by (sum_by paid_out ones) (sum_by taken_back ones) (sum_by paid_out twos) (sum_by taken_back twos)
    (sum_by less (differing_of ts us)) (sum_by more (differing_of ts us)) (moved_by ts us ones twos one two e)
    ∙ sums_apart (differing_of ts us)
