-- What a reader's steps make of the text that it has read so far.
use Rattle.std.proofs.Common.{◌≡◌, ◌≢◌, cond, eqb, add-zero, ℕ, suc, Bool, true, false, List, [], ◌∷◌, ◌++◌, length, drop}
use Rattle.std.proofs.Common.{append_assoc, append-nil, refl, sym, ap, ◌∙◌, subst, arith, take, get_or, take_all, length-drop}
use Rattle.std.proofs.Common.{◌-◌, ◌<◌, inl, inr, Result, Ok, Err, Option, Some, None, MatchOption}
use Rattle.std.specs.List.{prefix_len}
use Rattle.std.proofs.lemmas.Bool.{cases_Bool, ne_eqb}
use Rattle.std.proofs.lemmas.Bool.Decides.{nat_tests}
use Rattle.std.proofs.lemmas.List.{get_or-take, get_or-drop, take-append-drop, length-take}
use Rattle.std.proofs.lemmas.List.Elements.{All-nil, All-append, All-from_get_or}
use Rattle.memchr.specs.Find.{IsFirstByte, is_byte2}
use Rattle.rx_batch.specs.declared.fault.BatchFault.{BatchFault}
use Rattle.rx_batch.specs.declared.fault.BatchFault.TheVariants as fault
use Rattle.rx_batch.specs.declared.front.Front.{Front}
use Rattle.rx_batch.specs.declared.reader.Reader.{Reader}
use Rattle.rx_text.specs.Results.{◌>>=◌}
use Rattle.rx_batch.specs.Fault.{UnlessMemory, Gives}
use Rattle.rx_batch.specs.Grammar.{is_skipped, is_mark, IsInside, record_text, past, record_of, no_front}
use Rattle.rx_batch.specs.Grammar.IsFront.{empty, skipped, good}
use Rattle.rx_batch.specs.Reading.{is_whole, ended, stray, begins, batch_from, batch_of}
use Rattle.rx_batch.specs.Pieces.{IsRead, IsReadUpTo, IsFaultOf, Fed, StandsFor, answer_of}
use Rattle.rx_batch.proofs.Following.{past_none, past_more, front_of, from_record, from_stray, from_second, from_begun, from_end}

-- ---- out of memory

pub unless : {P : Type 0} (f : BatchFault) → P → UnlessMemory f P
unless fault.Memory h = tt
unless f h = h

pub unless_so : {P Q : Type 0} (f : BatchFault) → (P → Q) → UnlessMemory f P → UnlessMemory f Q
unless_so fault.Memory h p = tt
unless_so f h p = h p

-- what a call answers exactly, it gives
pub gives_same : {X : Type 0} (result meant : Result X BatchFault) → result ≡ meant → Gives result meant
gives_same (Ok x) meant e = sym e
gives_same (Err f) meant e = unless f (sym e)

-- ---- between records

abbrev pub between : Front → Reader
between f = record { front = f; begun = None }

abbrev pub within : Front → List ℕ → Reader
within f body = record { front = f; begun = Some body }

pub as_between : (r : Reader) (text : List ℕ) → r.begun ≡ None → IsRead r text → IsRead (between r.front) text
as_between r text is h = subst (λ (b : Option (List ℕ)). IsRead (record { front = r.front; begun = b }) text) is h

pub as_within : (r : Reader) (text body : List ℕ) → r.begun ≡ Some body → IsRead r text → IsRead (within r.front body) text
as_within r text body is h = subst (λ (b : Option (List ℕ)). IsRead (record { front = r.front; begun = b }) text) is h

pub one_skipped : (f : Front) (text rest : List ℕ) (b : ℕ) → is_skipped b ≡ true
    → IsReadUpTo (between f) text (b ∷ rest) → IsReadUpTo (between (past 1 f)) text rest
one_skipped f text rest b is h = record {
  before = h.before ++ b ∷ [];
  whole = h.whole ∙ sym (append_assoc h.before (b ∷ []) rest);
  is_read = record {
    bytes = h.is_read.bytes ++ b ∷ [];
    good = skipped b h.is_read.good is;
    whole = ap (λ (bs : List ℕ). bs ++ b ∷ []) (h.is_read.whole ∙ append-nil h.is_read.bytes)
        ∙ sym (append-nil (h.is_read.bytes ++ b ∷ []));
    can_begin = tt;
  };
}

-- the skipped bytes at the front of what comes make the good front longer
pub gap_read : (f : Front) (text bytes : List ℕ) → IsReadUpTo (between f) text bytes
    → IsReadUpTo (between (past (prefix_len is_skipped bytes) f)) text (drop (prefix_len is_skipped bytes) bytes)
gap_read f text [] h = rw (past_none f) h
gap_read f text (b ∷ bytes) h = elim (cases_Bool (is_skipped b)) [
  | inl is ↦ (
      let n : prefix_len is_skipped (b ∷ bytes) ≡ suc (prefix_len is_skipped bytes) = rw is (omega arith) in
      rw (n, past_more (prefix_len is_skipped bytes) f) (gap_read (past 1 f) text bytes (one_skipped f text bytes b is h)))
  | inr other ↦ (
      let n : prefix_len is_skipped (b ∷ bytes) ≡ 0 = rw other refl in
      rw (n, past_none f) h)
]

-- after the skipped bytes stands a byte that isn't skipped
pub gap_over : (bytes : List ℕ) (b : ℕ) (rest : List ℕ) → drop (prefix_len is_skipped bytes) bytes ≡ b ∷ rest → is_skipped b ≡ false
gap_over [] b rest e = cc
gap_over (x ∷ bytes) b rest e = elim (cases_Bool (is_skipped x)) [
  | inl is ↦ (
      let n : prefix_len is_skipped (x ∷ bytes) ≡ suc (prefix_len is_skipped bytes) = rw is (omega arith) in
      gap_over bytes b rest (rw n at e))
  | inr other ↦ (
      let n : prefix_len is_skipped (x ∷ bytes) ≡ 0 = rw other refl in
      let same : x ∷ bytes ≡ b ∷ rest = rw n at e in
      let head : x ≡ b = cc in
      rw (← head) other)
]

-- the text is what stands before the last bytes, and these
read_from : (f : Front) (text rest more : List ℕ) (h : IsReadUpTo (between f) text rest)
    → batch_of (text ++ more) ≡ batch_from f (rest ++ more)
read_from f text rest more h =
    ap (λ (bs : List ℕ). batch_of (bs ++ more)) (h.whole ∙ ap (λ (bs : List ℕ). bs ++ rest) (h.is_read.whole ∙ append-nil h.is_read.bytes))
    ∙ ap batch_of (append_assoc h.is_read.bytes rest more) ∙ front_of h.is_read.good (rest ++ more)

-- a byte that begins no record
pub stray_read : (f : Front) (text rest : List ℕ) (b : ℕ) → is_skipped b ≡ false → begins f b ≡ false
    → IsReadUpTo (between f) text (b ∷ rest) → IsFaultOf (stray f) text
stray_read f text rest b other early h =
    unless (stray f) (λ more. read_from f text (b ∷ rest) more h ∙ from_stray f b (rest ++ more) other early)

-- STX begins a record
pub begun_read : (f : Front) (text rest : List ℕ) → is_whole f.stage ≡ false → IsReadUpTo (between f) text (2 ∷ rest)
    → IsReadUpTo (within f []) text rest
begun_read f text rest early h = record {
  before = h.before ++ 2 ∷ [];
  whole = h.whole ∙ sym (append_assoc h.before (2 ∷ []) rest);
  is_read = record {
    bytes = h.is_read.bytes;
    good = h.is_read.good;
    whole = ap (λ (bs : List ℕ). bs ++ 2 ∷ []) (h.is_read.whole ∙ append-nil h.is_read.bytes);
    can_begin = (All-nil (λ (b : ℕ). is_mark b ≡ false), early);
  };
}

-- ---- within a record

-- bytes other than STX and ETX belong to it
pub more_read : (f : Front) (text body run rest : List ℕ) → IsInside run
    → IsReadUpTo (within f body) text (run ++ rest) → IsReadUpTo (within f (body ++ run)) text rest
more_read f text body run rest inside h = record {
  before = h.before ++ run;
  whole = h.whole ∙ sym (append_assoc h.before run rest);
  is_read = record {
    bytes = h.is_read.bytes;
    good = h.is_read.good;
    whole = ap (λ (bs : List ℕ). bs ++ run) h.is_read.whole ∙ append_assoc h.is_read.bytes (2 ∷ body) run;
    can_begin = (All-append (λ (b : ℕ). is_mark b ≡ false) body run h.is_read.can_begin.0 inside, h.is_read.can_begin.1);
  };
}

-- its ETX makes it a part of the good front, where it is a good record
pub closed_read : (f g : Front) (text body rest : List ℕ) → record_of f body ≡ Ok g
    → IsReadUpTo (within f body) text (3 ∷ rest) → IsReadUpTo (between g) text rest
closed_read f g text body rest is h = record {
  before = h.before ++ 3 ∷ [];
  whole = h.whole ∙ sym (append_assoc h.before (3 ∷ []) rest);
  is_read = record {
    bytes = h.is_read.bytes ++ record_text body;
    good = good body g h.is_read.good h.is_read.can_begin.0 is;
    whole = ap (λ (bs : List ℕ). bs ++ 3 ∷ []) h.is_read.whole ∙ append_assoc h.is_read.bytes (2 ∷ body) (3 ∷ [])
        ∙ sym (append-nil (h.is_read.bytes ++ record_text body));
    can_begin = tt;
  };
}

-- the text is a good front, the record so far and the last bytes
begun_from : (f : Front) (text body rest more : List ℕ) (h : IsReadUpTo (within f body) text rest)
    → batch_of (text ++ more) ≡ batch_from f (2 ∷ (body ++ (rest ++ more)))
begun_from f text body rest more h =
    ap (λ (bs : List ℕ). batch_of (bs ++ more)) (h.whole ∙ ap (λ (bs : List ℕ). bs ++ rest) h.is_read.whole)
    ∙ ap batch_of (append_assoc (h.is_read.bytes ++ 2 ∷ body) rest more ∙ append_assoc h.is_read.bytes (2 ∷ body) (rest ++ more))
    ∙ front_of h.is_read.good (2 ∷ (body ++ (rest ++ more)))

-- another STX before its ETX
pub second_read : (f : Front) (text body rest : List ℕ) → IsReadUpTo (within f body) text (2 ∷ rest)
    → IsFaultOf (fault.Unclosed f.length) text
second_read f text body rest h more =
    begun_from f text body (2 ∷ rest) more h ∙ from_second f body (rest ++ more) h.is_read.can_begin.1 h.is_read.can_begin.0

-- its ETX, if it is no good record
pub bad_read : (f : Front) (text body rest : List ℕ) (e : BatchFault) → UnlessMemory e (record_of f body ≡ Err e)
    → IsReadUpTo (within f body) text (3 ∷ rest) → IsFaultOf e text
bad_read f text body rest e is h =
    let said : record_of f body ≡ Err e → (more : List ℕ) → batch_of (text ++ more) ≡ Err e = λ bad more.
    begun_from f text body (3 ∷ rest) more h ∙ from_record f body (rest ++ more) h.is_read.can_begin.1 h.is_read.can_begin.0
    ∙ ap (λ (r : Result Front BatchFault). r >>= λ g. batch_from g (rest ++ more)) bad in
    unless_so e said is

-- ---- the end of the text

pub end_read : (f : Front) (text : List ℕ) → IsRead (between f) text → batch_of text ≡ ended f
end_read f text h = ap batch_of h.whole ∙ front_of h.good [] ∙ from_end f

pub begun_end_read : (f : Front) (text body : List ℕ) → IsRead (within f body) text → batch_of text ≡ Err (fault.Unclosed f.length)
begun_end_read f text body h = ap batch_of h.whole ∙ front_of h.good (2 ∷ body) ∙ from_begun f body h.can_begin.1 h.can_begin.0

-- nothing was read of the empty text
pub nothing_read : (r : Reader) → r ≡ record { front = no_front; begun = None } → IsRead r []
nothing_read r is =
    let start : IsRead (between no_front) [] = record { bytes = []; good = empty; whole = refl; can_begin = tt } in
    subst (λ (x : Reader). IsRead x []) (sym is) start

-- a fault of every longer text is that of the text
pub fault_here : (f : BatchFault) (text : List ℕ) → IsFaultOf f text → UnlessMemory f (batch_of text ≡ Err f)
fault_here f text h =
    let said : ((later : List ℕ) → batch_of (text ++ later) ≡ Err f) → batch_of text ≡ Err f = λ is.
    ap batch_of (sym (append-nil text)) ∙ is [] in
    unless_so f said h

-- what a call answers for a fault that is kept
answered : (o : Option BatchFault) (r : Reader) (text : List ℕ) (e : BatchFault) → Err e ≡ answer_of o
    → MatchOption o (IsRead r text) (λ f. IsFaultOf f text) → UnlessMemory e (batch_of text ≡ Err e)
answered None r text e is h = cc
answered (Some f) r text e is h =
    let same : f ≡ e = cc in
    subst (λ (x : BatchFault). UnlessMemory x (batch_of text ≡ Err x)) same (fault_here f text h)

pub fed_fault : (fed : Fed) (text : List ℕ) (e : BatchFault) → Err e ≡ answer_of fed.fault → StandsFor fed text
    → UnlessMemory e (batch_of text ≡ Err e)
fed_fault fed text e is h = answered fed.fault fed.reader text e is h

-- a piece comes after the text so far
pub piece_comes : (r : Reader) (text piece : List ℕ) → IsRead r text → IsReadUpTo r (text ++ piece) piece
piece_comes r text piece h = record { before = text; whole = refl; is_read = h }

-- nothing is left of the piece
pub piece_read : (r : Reader) (text rest : List ℕ) → eqb (length rest) 0 ≡ true → IsReadUpTo r text rest → IsRead r text
piece_read r text [] none h = subst (λ (bs : List ℕ). IsRead r bs) (sym (h.whole ∙ append-nil h.before)) h.is_read
piece_read r text (b ∷ rest) none h = absurd (grind (arith, nat_tests))

-- ---- slices

-- what stands from the second place on
pub rest_of : (xs : List ℕ) → take (length xs - 1) (drop 1 xs) ≡ drop 1 xs
rest_of xs = take_all (length xs - 1) (drop 1 xs) (omega (arith, length-drop 1 xs))

first_of_all : (xs : List ℕ) → 0 < length xs → xs ≡ get_or xs 0 0 ∷ take (length xs - 1) (drop 1 xs)
first_of_all [] some = absurd (omega arith)
first_of_all (x ∷ xs) some = ap (λ (ys : List ℕ). x ∷ ys) (sym (rest_of (x ∷ xs)))

-- ---- the reader's steps, as its calls say them

abbrev passed : Front → Result Front BatchFault
passed f = Ok f

same_front : (f g : Front) → passed f ≡ passed g → f ≡ g
same_front f g e = cc

-- after the skipped bytes
pub gap_passed : (r : Reader) (g : Front) (text bytes rest : List ℕ) (n : ℕ) → r.begun ≡ None
    → n ≡ prefix_len is_skipped bytes → passed (past n r.front) ≡ passed g → rest ≡ drop n bytes
    → IsReadUpTo r text bytes → IsReadUpTo (record { front = g; begun = None }) text rest
gap_passed r g text bytes rest n none count front left h =
    let here : IsReadUpTo (record { front = r.front; begun = None }) text bytes =
    subst (λ (b : Option (List ℕ)). IsReadUpTo (record { front = r.front; begun = b }) text bytes) none h in
    let over = gap_read r.front text bytes here in
    rw (← same_front (past n r.front) g front, left, count) over

-- a byte after the skipped bytes is none of these
pub gap_ended : (bytes rest : List ℕ) (n : ℕ) → n ≡ prefix_len is_skipped bytes → rest ≡ drop n bytes
    → 0 < length rest → is_skipped (get_or rest 0 0) ≡ false
gap_ended bytes rest n count left some =
    gap_over bytes (get_or rest 0 0) (take (length rest - 1) (drop 1 rest)) (rw (← count, ← left) (first_of_all rest some))

pub stray_passed : (f : Front) (text rest : List ℕ) → 0 < length rest → is_skipped (get_or rest 0 0) ≡ false
    → begins f (get_or rest 0 0) ≡ false → IsReadUpTo (record { front = f; begun = None }) text rest → IsFaultOf (stray f) text
stray_passed f text rest some other early h =
    stray_read f text (take (length rest - 1) (drop 1 rest)) (get_or rest 0 0) other early
    (subst (λ (bs : List ℕ). IsReadUpTo (between f) text bs) (first_of_all rest some) h)

pub begun_passed : (f : Front) (text rest : List ℕ) → 0 < length rest → get_or rest 0 0 ≡ 2
    → is_whole f.stage ≡ false → IsReadUpTo (record { front = f; begun = None }) text rest
    → IsReadUpTo (record { front = f; begun = Some [] }) text (take (length rest - 1) (drop 1 rest))
begun_passed f text rest some stx early h =
    begun_read f text (take (length rest - 1) (drop 1 rest)) early
    (subst (λ (bs : List ℕ). IsReadUpTo (between f) text bs)
    (first_of_all rest some ∙ ap (λ (b : ℕ). b ∷ take (length rest - 1) (drop 1 rest)) stx) h)

pub filled : (n : ℕ) (b : Bool) → b ≡ eqb n 0 → b ≡ false → 0 < n
filled n b is some = grind (arith, nat_tests)

pub early_whole : (f : Front) (b : ℕ) (whole : Bool) → whole ≡ is_whole f.stage → whole ≡ true → begins f b ≡ false
early_whole f b whole is yes_whole = rw (sym is ∙ yes_whole) refl

other_byte : (whole : Bool) (b : ℕ) → b ≢ 2 → cond whole false (eqb b 2) ≡ false
other_byte true b ne = refl
other_byte false b ne = ne_eqb b 2 ne

pub early_other : (f : Front) (b : ℕ) → b ≢ 2 → begins f b ≡ false
early_other f b ne = other_byte (is_whole f.stage) b ne

-- ---- what memchr2 says of STX and ETX

not_true : (b : Bool) → (b ≡ true → ⊥) → b ≡ false
not_true true h = absurd (h refl)
not_true false h = refl

pub inside_all : (bytes : List ℕ) → IsFirstByte (is_byte2 2 3) bytes None → IsInside bytes
inside_all bytes none =
    All-from_get_or (λ (b : ℕ). is_mark b ≡ false) bytes 0 (λ k lt. not_true (is_mark (get_or bytes k 0)) (none k (omega arith) lt))

module _ (bytes : List ℕ) (n : ℕ) (first : IsFirstByte (is_byte2 2 3) bytes (Some n)) where
  inside_front : IsInside (take n bytes)
  inside_front =
      let at : (k : ℕ) → k < length (take n bytes) → is_mark (get_or (take n bytes) k 0) ≡ false = λ k lt.
      let less : k < n = omega (arith, length-take n bytes) in
      not_true (is_mark (get_or (take n bytes) k 0)) (λ is. first.0.before k (omega arith) less (rw (← get_or-take n bytes k 0 less) is)) in
      All-from_get_or (λ (b : ℕ). is_mark b ≡ false) (take n bytes) 0 at

  pub some_left : 0 < length (drop n bytes)
  some_left = omega (arith, length-drop n bytes, first.0.high)

  marked : is_mark (get_or (drop n bytes) 0 0) ≡ true
  marked = rw (get_or-drop n bytes 0 0, add-zero) first.1

  mark_is : get_or (drop n bytes) 0 0 ≢ 2 → get_or (drop n bytes) 0 0 ≡ 3
  mark_is ne = grind (arith, nat_tests, marked)

  module _ (f : Front) (text body : List ℕ) (h : IsReadUpTo (within f body) text bytes) where
    upto_mark : (b : ℕ) → get_or (drop n bytes) 0 0 ≡ b
        → IsReadUpTo (within f (body ++ take n bytes)) text (b ∷ take (length (drop n bytes) - 1) (drop 1 (drop n bytes)))
    upto_mark b is =
        let parts : bytes ≡ take n bytes ++ (b ∷ take (length (drop n bytes) - 1) (drop 1 (drop n bytes))) =
        sym (take-append-drop n bytes)
        ∙ ap (λ (bs : List ℕ). take n bytes ++ bs)
        (first_of_all (drop n bytes) some_left
        ∙ ap (λ (x : ℕ). x ∷ take (length (drop n bytes) - 1) (drop 1 (drop n bytes))) is) in
        more_read f text body (take n bytes) _ inside_front (subst (λ (bs : List ℕ). IsReadUpTo (within f body) text bs) parts h)

    pub second_passed : get_or (drop n bytes) 0 0 ≡ 2 → IsFaultOf (fault.Unclosed f.length) text
    second_passed stx = second_read f text (body ++ take n bytes) _ (upto_mark 2 stx)

    pub bad_passed : (e : BatchFault) → get_or (drop n bytes) 0 0 ≢ 2
        → UnlessMemory e (record_of f (body ++ take n bytes) ≡ Err e) → IsFaultOf e text
    bad_passed e other bad = bad_read f text (body ++ take n bytes) _ e bad (upto_mark 3 (mark_is other))

    pub closed_passed : (g : Front) → get_or (drop n bytes) 0 0 ≢ 2 → record_of f (body ++ take n bytes) ≡ Ok g
        → IsReadUpTo (between g) text (take (length (drop n bytes) - 1) (drop 1 (drop n bytes)))
    closed_passed g other is = closed_read f g text (body ++ take n bytes) _ is (upto_mark 3 (mark_is other))
