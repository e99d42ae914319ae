-- How many bytes lines have.
use Rattle.std.proofs.Common.{◌≡◌, ℕ, ◌+◌, ◌-◌, ◌≤◌, List, [], ◌∷◌, ◌++◌, length}
use Rattle.std.proofs.Common.{refl, sym, ap, ap₂, ◌∙◌, arith, append-nil, length-append}
use Rattle.std.specs.List.{All, AllZip}
use Rattle.std.proofs.lemmas.Grind.{flat_map-append}
use Rattle.std.proofs.lemmas.List.{map-append}
use Rattle.std.proofs.lemmas.List.Elements.{All-cons, All-head, All-nil, All-tail}
use Rattle.rx_ledger.specs.declared.member.Member.{Member}
use Rattle.rx_ledger.specs.declared.row.Row.{Row}
use Rattle.rx_books_text.specs.declared.head.Head.{Head}
use Rattle.rx_books_text.specs.declared.line.Line.{Line}
use Rattle.rx_books_text.specs.declared.line.Line.TheVariants as line
use Rattle.rx_books_text.specs.declared.version.Version.{Version}
use Rattle.rx_books_text.specs.LineText.{ended, head_text, line_text}
use Rattle.rx_books_text.specs.Printed.{member_lines}
use Rattle.rx_books_scan.specs.declared.part.Part.{Part}
use Rattle.rx_books_scan.specs.Lists.{BeginWith, claim_length, claim_lengths, lines_text}
use Rattle.rx_books_scan.specs.Parts.{AreLong, IsPart, IsPartMeasured, part_lines}
use Rattle.rx_books_scan.proofs.Parted.{member_lines-append}

-- the bytes are those of the lines and those that are left
pub begin_length : (v : Version) (bytes rest : List ℕ) (ls : List Line) → BeginWith v bytes ls rest
    → length bytes ≡ length (lines_text v ls) + length rest
begin_length v bytes rest ls front = ap length front.whole ∙ length-append (lines_text v ls) rest

-- this many bytes are those of the lines
pub begin_taken : (v : Version) (bytes rest : List ℕ) (ls : List Line) → BeginWith v bytes ls rest
    → length bytes - length rest ≡ length (lines_text v ls)
begin_taken v bytes rest ls front = omega (arith, begin_length v bytes rest ls front)

-- one more claim line
pub lengths_push : (v : Version) (bytes rest : List ℕ) (rows : List Row) (r : Row) (lengths : List ℕ) (n : ℕ)
    → lengths ≡ claim_lengths v rows → BeginWith v bytes (line.Claim r ∷ []) rest → n ≡ length bytes - length rest
    → lengths ++ n ∷ [] ≡ claim_lengths v (rows ++ r ∷ [])
lengths_push v bytes rest rows r lengths n so_far front is =
    let one : n ≡ claim_length v r =
    is ∙ begin_taken v bytes rest (line.Claim r ∷ []) front ∙ ap length (append-nil (ended (line_text v (line.Claim r)))) in
    ap₂ (λ (ls : List ℕ) (k : ℕ). ls ++ k ∷ []) so_far one ∙ sym (map-append (claim_length v) rows (r ∷ []))

lines_length : (v : Version) (ls ms : List Line)
    → length (lines_text v (ls ++ ms)) ≡ length (lines_text v ls) + length (lines_text v ms)
lines_length v ls ms =
    ap length (flat_map-append (λ l. ended (line_text v l)) ls ms) ∙ length-append (lines_text v ls) (lines_text v ms)

-- no line has no byte
pub long_none : (v : Version) → AreLong v [] [] 0 [] []
long_none v = record { members = refl; claims = refl }

-- lines, and more lines
pub long_more : (v : Version) (ms ns : List Member) (ds es : List ℕ) (m n : ℕ) (rows more : List Row) (ls ks : List ℕ)
    → length ds ≡ length ms → AreLong v ms ds m rows ls → AreLong v ns es n more ks
    → AreLong v (ms ++ ns) (ds ++ es) (m + n) (rows ++ more) (ls ++ ks)
long_more v ms ns ds es m n rows more ls ks same first second =
    record {
      members = ap₂ (λ (a b : ℕ). a + b) first.members second.members
          ∙ sym (ap (λ (l : List Line). length (lines_text v l)) (member_lines-append ms ns ds es same)
          ∙ lines_length v (member_lines ms ds) (member_lines ns es));
      claims = ap₂ (λ (a b : List ℕ). a ++ b) first.claims second.claims ∙ sym (map-append (claim_length v) rows more);
    }

-- the head line is what stands above the other lines
pub head_length : (text lines : List ℕ) (h : Head) → text ≡ ended (head_text h) ++ lines
    → length text - length lines ≡ length (ended (head_text h))
head_length text lines h whole = omega (arith, ap length whole, length-append (ended (head_text h)) lines)

-- no more bytes stand after the head line than in all
pub head_before : (text lines : List ℕ) (h : Head) → text ≡ ended (head_text h) ++ lines → length lines ≤ length text
head_before text lines h whole = omega (arith, ap length whole, length-append (ended (head_text h)) lines)

-- what holds of all holds of those before the last, and of the last
pub all_before : {A : Type 0} (P : A → Type 0) (xs : List A) (x : A) → All P (xs ++ x ∷ []) → All P xs
all_before P [] x all = All-nil P
all_before P (y ∷ xs) x all =
    All-cons P y xs (All-head P y (xs ++ x ∷ []) all) (all_before P xs x (All-tail P y (xs ++ x ∷ []) all))

pub last_of : {A : Type 0} (P : A → Type 0) (xs : List A) (x : A) → All P (xs ++ x ∷ []) → P x
last_of P [] x all = All-head P x [] all
last_of P (y ∷ xs) x all = last_of P xs x (All-tail P y (xs ++ x ∷ []) all)

-- of parts: what the lines of each are, and how long they are
pub part_fronts : {Q : Type 0} (v : Version) (bytes_of : Q → List ℕ) (pieces : List Q) (parts : List Part)
    → AllZip (λ piece part. IsPart v (bytes_of piece) part) pieces parts
    → AllZip (λ piece part. BeginWith v (bytes_of piece) (part_lines part) []) pieces parts
part_fronts v bytes_of [] [] all = tt
part_fronts v bytes_of [] (q ∷ parts) all = absurd all
part_fronts v bytes_of (p ∷ pieces) [] all = absurd all
part_fronts v bytes_of (p ∷ pieces) (q ∷ parts) all = (all.0.lines, part_fronts v bytes_of pieces parts all.1)

pub part_lengths : {Q : Type 0} (v : Version) (bytes_of : Q → List ℕ) (pieces : List Q) (parts : List Part)
    → AllZip (λ piece part. IsPart v (bytes_of piece) part) pieces parts → All (IsPartMeasured v) parts
part_lengths v bytes_of [] [] all = All-nil (IsPartMeasured v)
part_lengths v bytes_of [] (q ∷ parts) all = absurd all
part_lengths v bytes_of (p ∷ pieces) [] all = absurd all
part_lengths v bytes_of (p ∷ pieces) (q ∷ parts) all =
    All-cons (IsPartMeasured v) q parts all.0.measured (part_lengths v bytes_of pieces parts all.1)
