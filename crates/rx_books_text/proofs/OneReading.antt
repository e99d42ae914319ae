-- A fault of a text is the one that is read: so a text has one reading, its parts or its first fault.
use Rattle.std.proofs.Common.{◌≡◌, ℕ, ◌+◌, ◌<◌, ◌≤◌, true, false, eqb, ltb, List, [], ◌∷◌, ◌++◌, length, Option}
use Rattle.std.proofs.Common.{Some, None, Result, Ok, Err, refl, sym, ap, ◌∙◌, inl, inr, arith, append_assoc}
use Rattle.std.proofs.lemmas.Bool.{cases_Bool, eqb-true, lt-ltb}
use Rattle.rx_books_text.specs.declared.fault.BooksFault.{BooksFault}
use Rattle.rx_books_text.specs.declared.fault.BooksFault.TheVariants as fault
use Rattle.rx_books_text.specs.declared.head.Head.{Head}
use Rattle.rx_books_text.specs.declared.line.Line.{Line}
use Rattle.rx_books_text.specs.LineFits.{IsLine, IsPeriod}
use Rattle.rx_books_text.specs.LineReading.{head_of, line_of}
use Rattle.rx_books_text.specs.LineText.{ended, head_text, line_text}
use Rattle.rx_books_text.specs.Printed.{PrintedParts, line_feeds}
use Rattle.rx_books_text.specs.TextFault.{is_next, is_known, with_line, no_lines, BeginsWith, IsFront, FaultBehind, HasFault}
use Rattle.rx_books_text.specs.TextFault.IsFront.{headed, longer}
use Rattle.rx_books_text.specs.TextFault.FaultBehind.{no_line, out_of_order, unknown}
use Rattle.rx_books_text.specs.TextFault.HasFault.{too_much, no_head, behind}
use Rattle.rx_books_text.specs.TextReading.{lines, found_line, line_read, lines_read, printed_of}
use Rattle.rx_books_text.proofs.Cuts.{lines_over}
use Rattle.rx_books_text.proofs.Feedless.{line_feedless}
use Rattle.rx_books_text.proofs.HeadLaws.{head_takes, head_again, head_feedless}
use Rattle.rx_books_text.proofs.LineLaws.{line_takes, line_again}
use Rattle.rx_books_text.proofs.TextLaws.{Feed, ended_on, find_feed, whole_none}
use Rattle.rx_books_text.proofs.TextSteps.{lines_step, lines_fault, headless, read_behind}
use Rattle.rx_books_text.proofs.TextSteps as steps

abbrev fine : PrintedParts → Result PrintedParts BooksFault
fine p = Ok p

abbrev bad : BooksFault → Result PrintedParts BooksFault
bad f = Err f

-- ---- a line

line_good : (n : ℕ) (p : PrintedParts) (l : Line) → IsLine p.head.version l → is_next p l ≡ true → is_known p l ≡ true
    → line_read n p (line_text p.head.version l) ≡ fine (with_line p l)
unfolding line_read
line_good n p l fits next known = ap (found_line n p) (line_again p.head.version l fits) ∙ rw (next, known) refl

line_late : (n : ℕ) (p : PrintedParts) (l : Line) → IsLine p.head.version l → is_next p l ≡ false
    → line_read n p (line_text p.head.version l) ≡ bad (fault.Order n)
unfolding line_read
line_late n p l fits late = ap (found_line n p) (line_again p.head.version l fits) ∙ rw late refl

line_strange : (n : ℕ) (p : PrintedParts) (l : Line) → IsLine p.head.version l → is_next p l ≡ true → is_known p l ≡ false
    → line_read n p (line_text p.head.version l) ≡ bad (fault.UnknownMember n)
unfolding line_read
line_strange n p l fits next strange = ap (found_line n p) (line_again p.head.version l fits) ∙ rw (next, strange) refl

-- bytes that begin with a line, cut after it
begun : (p : PrintedParts) (l : Line) (bytes rest : List ℕ) → IsLine p.head.version l
    → bytes ≡ ended (line_text p.head.version l) ++ rest → lines bytes ≡ line_text p.head.version l ∷ lines rest
begun p l bytes rest fits whole =
    let a = line_text p.head.version l in
    ap lines (whole ∙ ended_on a rest) ∙ lines_over a rest (line_feedless p.head.version l fits)

-- ---- after a front

-- where bytes begin with no line, their first line is none
unread : (n : ℕ) (p : PrintedParts) (bytes : List ℕ) (feed : Feed bytes)
    → ((l : Line) → IsLine p.head.version l → BeginsWith bytes (line_text p.head.version l) → ⊥)
    → (o : Option Line) → line_of p.head.version feed.front ≡ o → found_line n p o ≡ bad (fault.Line n)
unread n p bytes feed never None is = refl
unread n p bytes feed never (Some l) is =
    let t = line_takes p.head.version feed.front l is in
    absurd (never l t.0
    (feed.rest, feed.whole ∙ ap (λ (s : List ℕ). s ++ 10 ∷ feed.rest) t.1 ∙ sym (ended_on (line_text p.head.version l) feed.rest)))

stopped : (n : ℕ) (p : PrintedParts) (bytes : List ℕ) → 0 < length bytes
    → ((l : Line) → IsLine p.head.version l → BeginsWith bytes (line_text p.head.version l) → ⊥)
    → lines_read n p (lines bytes) ≡ bad (fault.Line n)
unfolding line_read
stopped n p bytes some never = elim (find_feed bytes) [
  | inl none ↦ elim (cases_Bool (eqb (length bytes) 0)) [
    | inl empty ↦ absurd (omega (arith, some, eqb-true (length bytes) 0 empty))
    | inr full ↦ ap (lines_read n p) (whole_none bytes none) ∙ steps.lines_over n p bytes ∙ rw full refl
  ]
  | inr feed ↦
      let cut : lines bytes ≡ feed.front ∷ lines feed.rest = ap lines feed.whole ∙ lines_over feed.front feed.rest feed.none in
      ap (lines_read n p) cut
      ∙ lines_fault n p feed.front feed.rest (fault.Line n)
      (unread n p bytes feed never (line_of p.head.version feed.front) refl)
]

behind_read : {p : PrintedParts} {n : ℕ} {bytes : List ℕ} {f : BooksFault} → FaultBehind p n bytes f
    → lines_read (n + 1) p (lines bytes) ≡ bad f
behind_read {p} {n} {bytes} (no_line some never) = stopped (n + 1) p bytes some never
behind_read {p} {n} {bytes} (out_of_order l fits begins late) =
    ap (lines_read (n + 1) p) (begun p l bytes begins.0 fits begins.1)
    ∙ lines_fault (n + 1) p (line_text p.head.version l) begins.0 (fault.Order (n + 1)) (line_late (n + 1) p l fits late)
behind_read {p} {n} {bytes} (unknown l fits begins next strange) =
    ap (lines_read (n + 1) p) (begun p l bytes begins.0 fits begins.1)
    ∙ lines_fault (n + 1) p (line_text p.head.version l) begins.0 (fault.UnknownMember (n + 1))
    (line_strange (n + 1) p l fits next strange)

-- what stands after a front is read on
front_read : {front : List ℕ} {p : PrintedParts} {n : ℕ} → IsFront front p n → (rest text : List ℕ)
    → text ≡ front ++ rest → line_feeds text ≤ 1_000_000 → printed_of text ≡ lines_read (n + 1) p (lines rest)
front_read (headed h period) rest text whole few =
    read_behind text (head_text h) rest (Some h) few
    (ap lines (whole ∙ ended_on (head_text h) rest) ∙ lines_over (head_text h) rest (head_feedless h))
    (sym (head_again h period))
front_read (longer {bytes} {p} {n} l front fits next known) rest text whole few =
    let a = line_text p.head.version l in
    front_read front (ended a ++ rest) text (whole ∙ append_assoc bytes (ended a) rest) few
    ∙ ap (lines_read (n + 1) p) (begun p l (ended a ++ rest) rest fits refl)
    ∙ lines_step (n + 1) p (with_line p l) a rest (line_good (n + 1) p l fits next known)

-- ---- a whole text

headless_read : (text : List ℕ) (feed : Feed text) → line_feeds text ≤ 1_000_000
    → ((h : Head) → IsPeriod h.period → BeginsWith text (head_text h) → ⊥)
    → (o : Option Head) → o ≡ head_of feed.front → printed_of text ≡ bad fault.Head
headless_read text feed few never None is =
    read_behind text feed.front feed.rest None few
    (ap lines feed.whole ∙ lines_over feed.front feed.rest feed.none) is
headless_read text feed few never (Some h) is =
    let t = head_takes feed.front h (sym is) in
    absurd (never h t.0
    (feed.rest, feed.whole ∙ ap (λ (s : List ℕ). s ++ 10 ∷ feed.rest) t.1 ∙ sym (ended_on (head_text h) feed.rest)))

pub fault_read : {text : List ℕ} {f : BooksFault} → HasFault text f → printed_of text ≡ bad f
fault_read {text} (too_much many) =
    let over : ltb 1_000_000 (line_feeds text) ≡ true = lt-ltb _ _ many in
    rw over refl
fault_read {text} (no_head few never) = elim (find_feed text) [
  | inl none ↦ headless text few (whole_none text none)
  | inr feed ↦ headless_read text feed few never (head_of feed.front) refl
]
fault_read {text} (behind front rest p n f few whole good wrong) = front_read good rest text whole few ∙ behind_read wrong
