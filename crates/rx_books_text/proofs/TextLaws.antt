-- A text is read as what its lines say, and its fault is the first one of its lines.
use Rattle.std.proofs.Common.{◌≡◌, ℕ, zero, suc, ◌+◌, ◌<◌, ◌≤◌, true, false, eqb, ltb, List, [], ◌∷◌, ◌++◌, length, Option, Some, None}
use Rattle.std.proofs.Common.{Result, Ok, Err, refl, sym, ap, subst, ◌∙◌, inl, inr, arith, append_assoc, append-nil, length-append}
use Rattle.std.specs.Prelude.{◌⊎◌}
use Rattle.std.proofs.lemmas.Bool.{cases_Bool, eqb-true, ltb-true, ltb-false}
use Rattle.std.proofs.lemmas.Bool.Decides.{nat_tests}
use Rattle.std.proofs.lemmas.List.Elements.{All-nil, All-cons}
use Rattle.std.proofs.lemmas.List.{nil_from_length}
use Rattle.std.proofs.lemmas.List.Splits.{slice_split_none}
use Rattle.rx_books_text.specs.declared.fault.BooksFault.{BooksFault}
use Rattle.rx_books_text.specs.declared.fault.BooksFault.TheVariants as fault
use Rattle.rx_books_text.specs.declared.head.Head.{Head}
use Rattle.rx_books_text.specs.declared.line.Line.{Line}
use Rattle.rx_books_text.specs.LineFits.{IsLine}
use Rattle.rx_books_text.specs.LineReading.{head_of, line_of}
use Rattle.rx_books_text.specs.LineText.{ended, head_text, line_text}
use Rattle.rx_books_text.specs.Printed.{PrintedParts, line_feeds}
use Rattle.rx_books_text.specs.TextFault.{is_next, is_known, with_line, no_lines, BeginsWith, IsFront, FaultBehind, HasFault}
use Rattle.rx_books_text.specs.TextFault.IsFront.{headed, longer}
use Rattle.rx_books_text.specs.TextFault.FaultBehind.{no_line, out_of_order, unknown}
use Rattle.rx_books_text.specs.TextFault.HasFault.{too_much, no_head, behind}
use Rattle.rx_books_text.specs.TextReading.{lines, found_line, line_read, lines_read, printed_of}
use Rattle.rx_books_text.proofs.Cuts.{Without, lines_over}
use Rattle.rx_books_text.proofs.HeadLaws.{head_takes, head_again, head_feedless}
use Rattle.rx_books_text.proofs.LineLaws.{line_takes, line_again}
use Rattle.rx_books_text.proofs.Feedless.{line_feedless}
use Rattle.rx_books_text.proofs.TextSteps.{lines_cons, lines_step, lines_fault, headless, read_behind}
use Rattle.rx_books_text.proofs.TextSteps as steps

-- ---- the first line feed

-- the bytes have no line feed, or a first one
pub record Feed (bs : List ℕ) : Type 0 where
  pub front : List ℕ
  pub rest : List ℕ
  pub whole : bs ≡ front ++ 10 ∷ rest
  pub none : Without 10 front

pub find_feed : (bs : List ℕ) → Without 10 bs ⊎ Feed bs
find_feed [] = inl (All-nil (λ (b : ℕ). eqb b 10 ≡ false))
find_feed (b ∷ bs) = elim (cases_Bool (eqb b 10)) [
  | inl feed ↦ inr (record {
    front = [];
    rest = bs;
    whole = ap (λ (c : ℕ). c ∷ bs) (eqb-true b 10 feed);
    none = All-nil (λ (c : ℕ). eqb c 10 ≡ false);
  })
  | inr other ↦ elim (find_feed bs) [
    | inl none ↦ inl (All-cons (λ (c : ℕ). eqb c 10 ≡ false) b bs other none)
    | inr more ↦ inr (record {
      front = b ∷ more.front;
      rest = more.rest;
      whole = ap (λ (t : List ℕ). b ∷ t) more.whole;
      none = All-cons (λ (c : ℕ). eqb c 10 ≡ false) b more.front other more.none;
    })
  ]
]

pub ended_on : (text rest : List ℕ) → ended text ++ rest ≡ text ++ 10 ∷ rest
ended_on text rest = append_assoc text (10 ∷ []) rest

abbrev first_of : List (List ℕ) → List ℕ
first_of [] = []
first_of (x ∷ xs) = x

-- the first line is one
one_line : (a b c d : List ℕ) → a ++ 10 ∷ b ≡ c ++ 10 ∷ d → Without 10 a → Without 10 c → a ≡ c
one_line a b c d same none_a none_c =
    ap first_of (sym (lines_over a b none_a) ∙ ap lines same ∙ lines_over c d none_c)

pub whole_none : (bs : List ℕ) → Without 10 bs → lines bs ≡ bs ∷ []
whole_none bs none = slice_split_none (λ b. eqb b 10) bs none

abbrev others : List (List ℕ) → ℕ
others [] = 0
others (x ∷ xs) = length xs

-- bytes without a line feed begin with no line
no_line_in : (bs text rest : List ℕ) → Without 10 bs → Without 10 text → bs ≡ ended text ++ rest → ⊥
no_line_in bs text rest none feedless is =
    let more = lines_cons rest in
    let cut : lines bs ≡ text ∷ more.0 ∷ more.1 =
    ap lines (is ∙ ended_on text rest) ∙ lines_over text rest feedless ∙ ap (λ (xs : List (List ℕ)). text ∷ xs) more.2 in
    let count : 0 ≡ suc (length more.1) = ap others (sym (whole_none bs none) ∙ cut) in
    omega (arith, count)

-- ---- one line

abbrev fine : PrintedParts → Result PrintedParts BooksFault
fine p = Ok p

abbrev bad : BooksFault → Result PrintedParts BooksFault
bad f = Err f

fine_same : (p q : PrintedParts) → fine p ≡ fine q → p ≡ q
fine_same p q e = cc

bad_same : (f g : BooksFault) → bad f ≡ bad g → f ≡ g
bad_same f g e = cc

fine_bad : {A : Type 0} (p : PrintedParts) (f : BooksFault) → fine p ≡ bad f → A
fine_bad p f e = absurd cc

-- a line that was taken
record IsTaken (p q : PrintedParts) (text : List ℕ) : Type 0 where
  line : Line
  fits : IsLine p.head.version line
  spelled : text ≡ line_text p.head.version line
  next : is_next p line ≡ true
  known : is_known p line ≡ true
  with_it : with_line p line ≡ q

taken_of : (n : ℕ) (p q : PrintedParts) (text : List ℕ) (o : Option Line) → line_of p.head.version text ≡ o
    → found_line n p o ≡ Ok q → IsTaken p q text
taken_of n p q text None is e = absurd (fine_bad q (fault.Line n) (sym e))
taken_of n p q text (Some l) is e =
    let t = line_takes p.head.version text l is in
    elim (cases_Bool (is_next p l)) [
      | inl next ↦ elim (cases_Bool (is_known p l)) [
        | inl known ↦ record {
          line = l;
          fits = t.0;
          spelled = t.1;
          next = next;
          known = known;
          with_it = fine_same (with_line p l) q (rw (next, known) at e);
        }
        | inr stranger ↦ absurd (fine_bad q (fault.UnknownMember n) (sym (rw (next, stranger) at e)))
      ]
      | inr late ↦ absurd (fine_bad q (fault.Order n) (sym (rw late at e)))
    ]

taken : (n : ℕ) (p q : PrintedParts) (text : List ℕ) → line_read n p text ≡ Ok q → IsTaken p q text
unfolding line_read
taken n p q text e = taken_of n p q text (line_of p.head.version text) refl e

-- a line that wasn't: what follows it
fault_of : (n : ℕ) (p : PrintedParts) (f : BooksFault) (bytes text rest : List ℕ) (o : Option Line)
    → bytes ≡ text ++ 10 ∷ rest → Without 10 text → line_of p.head.version text ≡ o
    → found_line (n + 1) p o ≡ Err f → FaultBehind p n bytes f
fault_of n p f bytes text rest None whole none is e =
    subst (FaultBehind p n bytes) (bad_same (fault.Line (n + 1)) f e)
    (no_line (omega (arith, ap length whole, length-append text (10 ∷ rest)))
    (λ l fits begins.
    let same : text ≡ line_text p.head.version l =
    one_line text rest (line_text p.head.version l) begins.0
    (sym whole ∙ begins.1 ∙ ended_on (line_text p.head.version l) begins.0) none (line_feedless p.head.version l fits) in
    let found : None ≡ some_line l = sym is ∙ ap (line_of p.head.version) same ∙ line_again p.head.version l fits in
    cc))
  where
    some_line : Line → Option Line
    some_line l = Some l
fault_of n p f bytes text rest (Some l) whole none is e =
    let t = line_takes p.head.version text l is in
    let begins : BeginsWith bytes (line_text p.head.version l) =
    (rest, whole ∙ ap (λ (s : List ℕ). s ++ 10 ∷ rest) t.1 ∙ sym (ended_on (line_text p.head.version l) rest)) in
    elim (cases_Bool (is_next p l)) [
      | inl next ↦ elim (cases_Bool (is_known p l)) [
        | inl known ↦ absurd (fine_bad (with_line p l) f (rw (next, known) at e))
        | inr other ↦
            subst (FaultBehind p n bytes) (bad_same (fault.UnknownMember (n + 1)) f (rw (next, other) at e))
            (unknown l t.0 begins next other)
      ]
      | inr late ↦
          subst (FaultBehind p n bytes) (bad_same (fault.Order (n + 1)) f (rw late at e))
          (out_of_order l t.0 begins late)
    ]

line_fault : (n : ℕ) (p : PrintedParts) (f : BooksFault) (bytes text rest : List ℕ)
    → bytes ≡ text ++ 10 ∷ rest → Without 10 text → line_read (n + 1) p text ≡ Err f → FaultBehind p n bytes f
unfolding line_read
line_fault n p f bytes text rest whole none e =
    fault_of n p f bytes text rest (line_of p.head.version text) whole none refl e

-- ---- all lines

-- what the reading of a text says of it
abbrev pub IsReading : List ℕ → Result PrintedParts BooksFault → Type 0
IsReading text (Ok q) = (m : ℕ) × IsFront text q m
IsReading text (Err f) = HasFault text f

-- what is read of a front, and of the bytes after it
record IsRead (n : ℕ) (p : PrintedParts) (front rest text : List ℕ) : Type 0 where
  good : IsFront front p n
  whole : text ≡ front ++ rest
  few : line_feeds text ≤ 1_000_000

abbrev Reads : ℕ → PrintedParts → List ℕ → List ℕ → Type 0
Reads n p rest text = IsReading text (lines_read (n + 1) p (lines rest))

at_end : (n : ℕ) (p : PrintedParts) (front rest text : List ℕ) → IsRead n p front rest text → Without 10 rest → Reads n p rest text
at_end n p front rest text is none =
    let read = ap (lines_read (n + 1) p) (whole_none rest none) ∙ steps.lines_over (n + 1) p rest in
    elim (cases_Bool (eqb (length rest) 0)) [
      | inl empty ↦
          let nil : rest ≡ [] = nil_from_length rest (eqb-true (length rest) 0 empty) in
          let all : text ≡ front = is.whole ∙ ap (λ (t : List ℕ). front ++ t) nil ∙ append-nil front in
          let done : lines_read (n + 1) p (lines rest) ≡ fine p = read ∙ rw empty refl in
          subst (IsReading text) (sym done) (n, subst (λ (t : List ℕ). IsFront t p n) (sym all) is.good)
      | inr some ↦
          let pos : 0 < length rest = grind (arith, nat_tests) in
          let stop : lines_read (n + 1) p (lines rest) ≡ bad (fault.Line (n + 1)) = read ∙ rw some refl in
          subst (IsReading text) (sym stop)
          (behind front rest p n (fault.Line (n + 1)) is.few is.whole is.good
          (no_line pos (λ l fits begins.
          no_line_in rest (line_text p.head.version l) begins.0 none (line_feedless p.head.version l fits) begins.1)))
    ]

-- the next line is read, and then the others
step : (n : ℕ) (p : PrintedParts) (front rest text : List ℕ) (feed : Feed rest) → IsRead n p front rest text
    → ((q : PrintedParts) → IsRead (n + 1) q (front ++ ended feed.front) feed.rest text → Reads (n + 1) q feed.rest text)
    → (r : Result PrintedParts BooksFault) → line_read (n + 1) p feed.front ≡ r → Reads n p rest text
step n p front rest text feed is next (Ok q) e =
    let a = feed.front in
    let t = taken (n + 1) p q a e in
    let cut = ap lines feed.whole ∙ lines_over a feed.rest feed.none in
    let read = ap (lines_read (n + 1) p) cut ∙ lines_step (n + 1) p q a feed.rest e in
    let more : IsFront (front ++ ended (line_text p.head.version t.line)) (with_line p t.line) (n + 1) =
    longer t.line is.good t.fits t.next t.known in
    let here : IsFront (front ++ ended a) (with_line p t.line) (n + 1) =
    subst (λ (s : List ℕ). IsFront (front ++ ended s) (with_line p t.line) (n + 1)) (sym t.spelled) more in
    let good : IsFront (front ++ ended a) q (n + 1) =
    subst (λ (s : PrintedParts). IsFront (front ++ ended a) s (n + 1)) t.with_it here in
    let whole = is.whole ∙ ap (λ (s : List ℕ). front ++ s) (feed.whole ∙ sym (ended_on a feed.rest))
    ∙ sym (append_assoc front (ended a) feed.rest) in
    subst (IsReading text) (sym read) (next q (record { good = good; whole = whole; few = is.few }))
step n p front rest text feed is next (Err f) e =
    let a = feed.front in
    let cut = ap lines feed.whole ∙ lines_over a feed.rest feed.none in
    let read = ap (lines_read (n + 1) p) cut ∙ lines_fault (n + 1) p a feed.rest f e in
    subst (IsReading text) (sym read)
    (behind front rest p n f is.few is.whole is.good (line_fault n p f rest a feed.rest feed.whole feed.none e))

read_on : (k n : ℕ) (p : PrintedParts) (front rest text : List ℕ) → length rest ≤ k → IsRead n p front rest text
    → Reads n p rest text
read_on zero n p front rest text le is = elim (find_feed rest) [
  | inl none ↦ at_end n p front rest text is none
  | inr feed ↦ absurd (omega (arith, le, ap length feed.whole, length-append feed.front (10 ∷ feed.rest)))
]
read_on (suc k) n p front rest text le is = elim (find_feed rest) [
  | inl none ↦ at_end n p front rest text is none
  | inr feed ↦
      let less : length feed.rest ≤ k = omega (arith, le, ap length feed.whole, length-append feed.front (10 ∷ feed.rest)) in
      step n p front rest text feed is
      (λ q more. read_on k (n + 1) q (front ++ ended feed.front) feed.rest text less more)
      (line_read (n + 1) p feed.front) refl
]

-- ---- the whole text

by_head : (text : List ℕ) (feed : Feed text) (o : Option Head) → line_feeds text ≤ 1_000_000 → o ≡ head_of feed.front
    → IsReading text (printed_of text)
by_head text feed None few is =
    let cut = ap lines feed.whole ∙ lines_over feed.front feed.rest feed.none in
    subst (IsReading text) (sym (read_behind text feed.front feed.rest None few cut is))
    (no_head few (λ h period begins.
    let same : feed.front ≡ head_text h =
    one_line feed.front feed.rest (head_text h) begins.0
    (sym feed.whole ∙ begins.1 ∙ ended_on (head_text h) begins.0) feed.none (head_feedless h) in
    let found : None ≡ some_head h = is ∙ ap head_of same ∙ head_again h period in
    cc))
  where
    some_head : Head → Option Head
    some_head h = Some h
by_head text feed (Some h) few is =
    let cut = ap lines feed.whole ∙ lines_over feed.front feed.rest feed.none in
    let t = head_takes feed.front h (sym is) in
    let good : IsFront (ended feed.front) (no_lines h) 1 =
    subst (λ (s : List ℕ). IsFront (ended s) (no_lines h) 1) (sym t.1) (headed h t.0) in
    subst (IsReading text) (sym (read_behind text feed.front feed.rest (Some h) few cut is))
    (read_on (length feed.rest) 1 (no_lines h) (ended feed.front) feed.rest text (omega arith)
    (record { good = good; whole = feed.whole ∙ sym (ended_on feed.front feed.rest); few = few }))

pub reading : (text : List ℕ) → IsReading text (printed_of text)
reading text = elim (cases_Bool (ltb 1_000_000 (line_feeds text))) [
  | inl many ↦
      let over : printed_of text ≡ bad fault.TooMuch = rw many refl in
      subst (IsReading text) (sym over) (too_much (ltb-true _ _ many))
  | inr other ↦
      let few : line_feeds text ≤ 1_000_000 = ltb-false _ _ other in
      elim (find_feed text) [
        | inl none ↦ subst (IsReading text) (sym (headless text few (whole_none text none)))
            (no_head few (λ h period begins. no_line_in text (head_text h) begins.0 none (head_feedless h) begins.1))
        | inr feed ↦ by_head text feed (head_of feed.front) few refl
      ]
]
