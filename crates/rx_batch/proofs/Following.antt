-- What follows a good front is read as if the front weren't there.
use Rattle.std.proofs.Common.{◌≡◌, ◌<◌, ℕ, suc, ◌+◌, Bool, true, false, ◌||◌, eqb, List, [], ◌∷◌, ◌++◌, length, drop}
use Rattle.std.proofs.Common.{append_assoc, refl, sym, ap, ◌∙◌, arith, inl, inr, Result, Ok, Err}
use Rattle.std.specs.List.{All, slice_split, onto_first, list_any}
use Rattle.std.proofs.lemmas.Bool.{cases_Bool}
use Rattle.std.proofs.lemmas.Bool.Decides.{nat_tests}
use Rattle.std.proofs.lemmas.List.Elements.{All-nil, All-cons, All-head, All-tail, All-append, All-weaker}
use Rattle.std.proofs.lemmas.List.Folds.{list_any-append, list_any_none}
use Rattle.std.proofs.lemmas.List.Splits.{slice_split-cons_yes, slice_split-cons_no, slice_split_none, slice_split_at, length-slice_split}
use Rattle.rx_batch.specs.declared.batch.Batch.{Batch}
use Rattle.rx_batch.specs.declared.fault.BatchFault.{BatchFault}
use Rattle.rx_batch.specs.declared.fault.BatchFault.TheVariants as fault
use Rattle.rx_batch.specs.declared.front.Front.{Front}
use Rattle.rx_batch.specs.declared.front.Stage.{Stage}
use Rattle.rx_batch.specs.declared.front.Stage.TheVariants.{Start, Headed, Whole}
use Rattle.rx_text.specs.Results.{◌>>=◌}
use Rattle.rx_batch.specs.Grammar.{is_skipped, is_mark, IsInside, record_text, past, record_of, record_at, IsFront}
use Rattle.rx_batch.specs.Grammar.IsFront.{empty, skipped, good}
use Rattle.rx_batch.specs.Reading.{is_whole, ended, stray, begins, closed, last, gap, unskipped, batch_after, batch_from, batch_of}

-- ---- fronts and their lengths

pub past_none : (f : Front) → past 0 f ≡ f
past_none f = ap (λ (n : ℕ). record f { length = n }) (let e : f.length + 0 ≡ f.length = omega arith in e)

pub past_more : (n : ℕ) (f : Front) → past (suc n) f ≡ past n (past 1 f)
past_more n f = ap (λ (k : ℕ). record f { length = k }) (let e : f.length + suc n ≡ (f.length + 1) + n = omega arith in e)

pub not_whole : (s : Stage) (f g : Front) (body : List ℕ) → record_at s f body ≡ Ok g → is_whole s ≡ false
not_whole Start f g body is = refl
not_whole (Headed head) f g body is = refl
not_whole (Whole head) f g body is = cc

-- ---- the bytes between STX and ETX

is_etx : ℕ → Bool
is_etx b = eqb b 3

pub no_etx : (body : List ℕ) → IsInside body → All (λ b. eqb b 3 ≡ false) body
no_etx body inside = All-weaker (λ b. is_mark b ≡ false) (λ b. eqb b 3 ≡ false) (λ b h. grind (arith, nat_tests)) body inside

pub no_stx : (body : List ℕ) → IsInside body → list_any (λ b. eqb b 2) body ≡ false
no_stx body inside =
    list_any_none (λ b. eqb b 2) body
    (All-weaker (λ b. is_mark b ≡ false) (λ b. eqb b 2 ≡ false) (λ b h. grind (arith, nat_tests)) body inside)

-- ---- the pieces between ETX

pub after_more : (f : Front) (piece : List ℕ) (pieces : List (List ℕ)) → 0 < length pieces
    → batch_after f (piece ∷ pieces) ≡ (closed (past (gap piece) f) (unskipped piece) >>= λ g. batch_after g pieces)
after_more f piece [] some = absurd (omega arith)
after_more f piece (next ∷ pieces) some = refl

pub some_pieces : (bytes : List ℕ) → 0 < length (slice_split (λ b. eqb b 3) bytes)
some_pieces bytes = omega (arith, length-slice_split (λ (b : ℕ). eqb b 3) bytes)

gap_skipped : (b : ℕ) (piece : List ℕ) → is_skipped b ≡ true → gap (b ∷ piece) ≡ suc (gap piece)
gap_skipped b piece is = rw is (omega arith)

skipped_pieces : (f : Front) (b : ℕ) (pieces : List (List ℕ)) → is_skipped b ≡ true
    → batch_after f (onto_first b pieces) ≡ batch_after (past 1 f) pieces
skipped_pieces f b [] is = rw (gap_skipped b [] is) refl
skipped_pieces f b (piece ∷ []) is = rw (gap_skipped b piece is, past_more) refl
skipped_pieces f b (piece ∷ next ∷ pieces) is = rw (gap_skipped b piece is, past_more) refl

-- a skipped byte makes the front longer
pub from_skipped : (f : Front) (b : ℕ) (rest : List ℕ) → is_skipped b ≡ true → batch_from f (b ∷ rest) ≡ batch_from (past 1 f) rest
from_skipped f b rest is =
    let other : eqb b 3 ≡ false = grind (arith, nat_tests) in
    ap (batch_after f) (slice_split-cons_no (λ (x : ℕ). eqb x 3) b rest other) ∙ skipped_pieces f b (slice_split (λ x. eqb x 3) rest) is

-- ---- a record and what follows it

-- a piece that begins with STX has nothing to skip
closed_record : (f : Front) (body : List ℕ) → is_whole f.stage ≡ false → IsInside body
    → closed (past (gap (2 ∷ body)) f) (unskipped (2 ∷ body)) ≡ record_of f body
closed_record f body early inside = rw (past_none f, early, no_stx body inside) refl

-- a whole record is taken, and the text goes on after it
pub from_record : (f : Front) (body rest : List ℕ) → is_whole f.stage ≡ false → IsInside body
    → batch_from f (2 ∷ (body ++ 3 ∷ rest)) ≡ (record_of f body >>= λ g. batch_from g rest)
from_record f body rest early inside =
    let cut = slice_split_at (λ (b : ℕ). eqb b 3) (2 ∷ body) 3 rest
    (All-cons (λ (b : ℕ). eqb b 3 ≡ false) 2 body refl (no_etx body inside)) refl in
    ap (batch_after f) cut ∙ after_more f (2 ∷ body) (slice_split (λ b. eqb b 3) rest) (some_pieces rest)
    ∙ ap (λ (r : Result Front BatchFault). r >>= λ g. batch_from g rest) (closed_record f body early inside)

pub record_joined : (body rest : List ℕ) → record_text body ++ rest ≡ 2 ∷ (body ++ 3 ∷ rest)
record_joined body rest = ap (λ (bs : List ℕ). 2 ∷ bs) (append_assoc body (3 ∷ []) rest)

-- a text that begins with a good front is read as what follows the front
pub front_of : {bytes : List ℕ} {f : Front} → IsFront bytes f → (rest : List ℕ) → batch_of (bytes ++ rest) ≡ batch_from f rest
front_of empty rest = refl
front_of (skipped {bytes} {f} b h is) rest =
    ap batch_of (append_assoc bytes (b ∷ []) rest) ∙ front_of h (b ∷ rest) ∙ from_skipped f b rest is
front_of (good {bytes} {f} body g h inside is) rest =
    ap batch_of (append_assoc bytes (record_text body) rest) ∙ front_of h (record_text body ++ rest)
    ∙ ap (batch_from f) (record_joined body rest) ∙ from_record f body rest (not_whole f.stage f g body is) inside
    ∙ ap (λ (r : Result Front BatchFault). r >>= λ x. batch_from x rest) is

-- ---- what no good front goes on with

no_gap : (b : ℕ) (piece : List ℕ) → is_skipped b ≡ false → gap (b ∷ piece) ≡ 0
no_gap b piece other = rw other refl

last_here : (f : Front) (b : ℕ) (body : List ℕ) → is_skipped b ≡ false
    → last (past (gap (b ∷ body)) f) (unskipped (b ∷ body)) ≡ last f (b ∷ body)
last_here f b body other =
    ap (λ (n : ℕ). last (past n f) (drop n (b ∷ body))) (no_gap b body other) ∙ ap (λ (g : Front). last g (b ∷ body)) (past_none f)

closed_here : (f : Front) (b : ℕ) (body : List ℕ) → is_skipped b ≡ false
    → closed (past (gap (b ∷ body)) f) (unskipped (b ∷ body)) ≡ closed f (b ∷ body)
closed_here f b body other =
    ap (λ (n : ℕ). closed (past n f) (drop n (b ∷ body))) (no_gap b body other) ∙ ap (λ (g : Front). closed g (b ∷ body)) (past_none f)

stray_pieces : (f : Front) (b : ℕ) (pieces : List (List ℕ)) → is_skipped b ≡ false → begins f b ≡ false
    → batch_after f (onto_first b pieces) ≡ Err (stray f)
stray_pieces f b [] other early = last_here f b [] other ∙ rw early refl
stray_pieces f b (piece ∷ []) other early = last_here f b piece other ∙ rw early refl
stray_pieces f b (piece ∷ next ∷ pieces) other early =
    ap (λ (r : Result Front BatchFault). r >>= λ g. batch_after g (next ∷ pieces))
    (let e : closed (past (gap (b ∷ piece)) f) (unskipped (b ∷ piece))
    ≡ Err (stray f) = closed_here f b piece other ∙ rw early refl in e)

abbrev failed : BatchFault → Result Batch BatchFault
failed e = Err e

-- a byte that is neither skipped nor begins a record
pub from_stray : (f : Front) (b : ℕ) (rest : List ℕ) → is_skipped b ≡ false → begins f b ≡ false → batch_from f (b ∷ rest) ≡ Err (stray f)
from_stray f b rest other early = elim (cases_Bool (eqb b 3)) [
  | inl etx ↦ ap (batch_after f) (slice_split-cons_yes (λ (x : ℕ). eqb x 3) b rest etx)
      ∙ after_more f [] (slice_split (λ x. eqb x 3) rest) (some_pieces rest) ∙ ap (λ (g : Front). failed (stray g)) (past_none f)
  | inr other_byte ↦ ap (batch_after f) (slice_split-cons_no (λ (x : ℕ). eqb x 3) b rest other_byte)
      ∙ stray_pieces f b (slice_split (λ x. eqb x 3) rest) other early
]

-- the first piece, where the text begins with bytes other than ETX
first_piece : (pieces : List (List ℕ)) → 0 < length pieces → (piece : List ℕ) × (later : List (List ℕ)) × (pieces ≡ piece ∷ later)
first_piece [] some = absurd (omega arith)
first_piece (piece ∷ later) some = (piece, later, refl)

or_true : (b : Bool) → (b || true) ≡ true
or_true true = refl
or_true false = refl

split_front : (front rest : List ℕ) → All (λ b. eqb b 3 ≡ false) front
    → (piece : List ℕ) × (pieces : List (List ℕ)) × (slice_split (λ b. eqb b 3) (front ++ rest) ≡ (front ++ piece) ∷ pieces)
split_front [] [] h = ([], [], refl)
split_front [] (b ∷ rest) h = first_piece (slice_split (λ b. eqb b 3) (b ∷ rest)) (some_pieces (b ∷ rest))
split_front (b ∷ front) rest h =
    let later = split_front front rest (All-tail (λ (x : ℕ). eqb x 3 ≡ false) b front h) in (
      later.0,
      later.1,
      slice_split-cons_no (λ (x : ℕ). eqb x 3) b (front ++ rest)
          (All-head (λ (x : ℕ). eqb x 3 ≡ false) b front h) ∙ ap (onto_first b) later.2,
    )

second_pieces : (f : Front) (body piece : List ℕ) (pieces : List (List ℕ)) → is_whole f.stage ≡ false
    → batch_after f ((2 ∷ (body ++ 2 ∷ piece)) ∷ pieces) ≡ Err (fault.Unclosed f.length)
second_pieces f body piece [] early = last_here f 2 (body ++ 2 ∷ piece) refl ∙ rw early refl
second_pieces f body piece (next ∷ pieces) early =
    let second : list_any (λ b. eqb b 2) (body ++ 2 ∷ piece) ≡ true =
    list_any-append (λ (b : ℕ). eqb b 2) body (2 ∷ piece) ∙ or_true (list_any (λ b. eqb b 2) body) in
    let here : closed (past (gap (2 ∷ (body ++ 2 ∷ piece))) f) (unskipped (2 ∷ (body ++ 2 ∷ piece)))
    ≡ Err (fault.Unclosed f.length) = closed_here f 2 (body ++ 2 ∷ piece) refl ∙ rw (early, second) refl in
    ap (λ (r : Result Front BatchFault). r >>= λ g. batch_after g (next ∷ pieces)) here

-- another STX before the record's ETX
pub from_second : (f : Front) (body rest : List ℕ) → is_whole f.stage ≡ false → IsInside body
    → batch_from f (2 ∷ (body ++ 2 ∷ rest)) ≡ Err (fault.Unclosed f.length)
from_second f body rest early inside =
    let marked : All (λ b. eqb b 3 ≡ false) (body ++ 2 ∷ []) =
    All-append (λ (b : ℕ). eqb b 3 ≡ false) body (2 ∷ []) (no_etx body inside)
    (All-cons (λ (b : ℕ). eqb b 3 ≡ false) 2 [] refl (All-nil (λ (b : ℕ). eqb b 3 ≡ false))) in
    let cut = split_front (2 ∷ (body ++ 2 ∷ [])) rest (All-cons (λ (b : ℕ). eqb b 3 ≡ false) 2 (body ++ 2 ∷ []) refl marked) in
    let joined : (xs : List ℕ) → 2 ∷ (body ++ 2 ∷ xs) ≡ (2 ∷ (body ++ 2 ∷ [])) ++ xs =
    λ xs. ap (λ (bs : List ℕ). 2 ∷ bs) (sym (append_assoc body (2 ∷ []) xs)) in
    ap (batch_from f) (joined rest)
    ∙ ap (batch_after f) (cut.2 ∙ ap (λ (p : List ℕ). p ∷ cut.1) (sym (joined cut.0)))
    ∙ second_pieces f body cut.0 cut.1 early

-- the end of the text before the record's ETX
pub from_begun : (f : Front) (body : List ℕ) → is_whole f.stage ≡ false → IsInside body
    → batch_from f (2 ∷ body) ≡ Err (fault.Unclosed f.length)
from_begun f body early inside =
    ap (batch_after f) (slice_split_none (λ (b : ℕ). eqb b 3) (2 ∷ body)
    (All-cons (λ (b : ℕ). eqb b 3 ≡ false) 2 body refl (no_etx body inside)))
    ∙ last_here f 2 body refl ∙ rw early refl

-- the end of the text
pub from_end : (f : Front) → batch_from f [] ≡ ended f
from_end f = ap ended (past_none f)
