-- Bytes that begin with lines.
use Rattle.std.proofs.Common.{◌≡◌, ℕ, ◌<◌, true, eqb, List, [], ◌∷◌, ◌++◌, length, map, refl, sym, ap, subst, ◌∙◌}
use Rattle.std.proofs.Common.{arith, Option, Some, None, Result, Ok, append_assoc, append-nil, length-append}
use Rattle.std.specs.Prelude.{IfOk, IfSome}
use Rattle.std.specs.List.{AllZip, flat_map}
use Rattle.std.proofs.lemmas.Bool.{eqb-true}
use Rattle.std.proofs.lemmas.Grind.{flat_map-append}
use Rattle.std.proofs.lemmas.List.{flat_map_more, map-append, nil_from_length}
use Rattle.std.proofs.lemmas.List.Elements.{All-nil, All-append}
use Rattle.rx_ledger.specs.declared.member.Member.{Member}
use Rattle.rx_books_text.specs.declared.line.Line.{Line}
use Rattle.rx_books_text.specs.declared.line.Line.TheVariants as line
use Rattle.rx_books_text.specs.declared.version.Version.{Version}
use Rattle.rx_books_text.specs.LineFits.{IsLine}
use Rattle.rx_books_text.specs.LineText.{line_text, ended}
use Rattle.rx_books_text.specs.Printed.{member_lines}
use Rattle.rx_books_scan.specs.Lists.{BeginWith, lines_text}

pub begin_none : (v : Version) (bytes : List ℕ) → BeginWith v bytes [] bytes
begin_none v bytes = record { whole = refl; fits = All-nil (IsLine v) }

-- lines, and more lines after them
pub begin_more : (v : Version) (a b c : List ℕ) (ls ms : List Line) → BeginWith v a ls b → BeginWith v b ms c
    → BeginWith v a (ls ++ ms) c
begin_more v a b c ls ms front more =
    let text : lines_text v (ls ++ ms) ≡ lines_text v ls ++ lines_text v ms =
    flat_map-append (λ l. ended (line_text v l)) ls ms in
    record {
      whole = front.whole ∙ ap (λ (t : List ℕ). lines_text v ls ++ t) more.whole
          ∙ sym (append_assoc (lines_text v ls) (lines_text v ms) c)
          ∙ ap (λ (t : List ℕ). t ++ c) (sym text);
      fits = All-append (IsLine v) ls ms front.fits more.fits;
    }

-- one more line of a kind
pub begin_push : {X : Type 0} (f : X → Line) (v : Version) (a b c : List ℕ) (xs : List X) (x : X)
    → BeginWith v a (map f xs) b → BeginWith v b (f x ∷ []) c → BeginWith v a (map f (xs ++ x ∷ [])) c
begin_push f v a b c xs x front more =
    subst (λ (ls : List Line). BeginWith v a ls c) (sym (map-append f xs (x ∷ [])))
    (begin_more v a b c (map f xs) (f x ∷ []) front more)

member_lines-push : (ms : List Member) (ds : List ℕ) (m : Member) (d : ℕ) → length ds ≡ length ms
    → member_lines (ms ++ m ∷ []) (ds ++ d ∷ []) ≡ member_lines ms ds ++ line.Member (record { member = m; deductible = d }) ∷ []
member_lines-push [] [] m d same = refl
member_lines-push [] (e ∷ ds) m d same = absurd (omega arith)
member_lines-push (n ∷ ms) [] m d same = absurd (omega arith)
member_lines-push (n ∷ ms) (e ∷ ds) m d same =
    ap (λ (ls : List Line). line.Member (record { member = n; deductible = e }) ∷ ls)
    (member_lines-push ms ds m d (omega arith))

-- one more member line
pub begin_member : (v : Version) (a b c : List ℕ) (ms : List Member) (ds : List ℕ) (m : Member) (d : ℕ)
    → length ds ≡ length ms → BeginWith v a (member_lines ms ds) b
    → BeginWith v b (line.Member (record { member = m; deductible = d }) ∷ []) c
    → BeginWith v a (member_lines (ms ++ m ∷ []) (ds ++ d ∷ [])) c
begin_member v a b c ms ds m d same front more =
    subst (λ (ls : List Line). BeginWith v a ls c) (sym (member_lines-push ms ds m d same))
    (begin_more v a b c (member_lines ms ds) (line.Member (record { member = m; deductible = d }) ∷ []) front more)

-- less is left after a line
pub begin_shorter : (v : Version) (a b : List ℕ) (l : Line) → BeginWith v a (l ∷ []) b → length b < length a
begin_shorter v a b l front =
    let t = line_text v l in
    omega (
      arith,
      ap length front.whole,
      length-append (ended t ++ []) b,
      ap length (append-nil (ended t)),
      length-append t (10 ∷ []),
    )

-- lines of three kinds, and nothing after them
pub begin_all : (v : Version) (a b c rest : List ℕ) (ls ms ns : List Line) → BeginWith v a ls b → BeginWith v b ms c
    → BeginWith v c ns rest → eqb (length rest) 0 ≡ true → BeginWith v a (ls ++ (ms ++ ns)) []
begin_all v a b c rest ls ms ns first second third over =
    begin_more v a b [] ls (ms ++ ns) first (begin_more v b c [] ms ns second
    (subst (BeginWith v c ns) (nil_from_length rest (eqb-true (length rest) 0 over)) third))

-- pieces that are lines, one after another
pub begin_pieces : {P Q : Type 0} (v : Version) (bytes_of : Q → List ℕ) (lines_of : P → List Line) (pieces : List Q) (parts : List P)
    → AllZip (λ piece part. BeginWith v (bytes_of piece) (lines_of part) []) pieces parts
    → BeginWith v (flat_map bytes_of pieces) (flat_map lines_of parts) []
begin_pieces v bytes_of lines_of [] [] all = begin_none v []
begin_pieces v bytes_of lines_of [] (q ∷ parts) all = absurd all
begin_pieces v bytes_of lines_of (p ∷ pieces) [] all = absurd all
begin_pieces v bytes_of lines_of (p ∷ pieces) (q ∷ parts) all =
    let more = begin_pieces v bytes_of lines_of pieces parts all.1 in
    begin_more v (bytes_of p ++ flat_map bytes_of pieces) (flat_map bytes_of pieces) [] (lines_of q) (flat_map lines_of parts)
    (record {
      whole = ap (λ (t : List ℕ). t ++ flat_map bytes_of pieces)
          (all.0.whole ∙ append-nil (lines_text v (lines_of q)));
      fits = all.0.fits;
    })
    more

-- one piece only
pub begin_alone : (v : Version) (bytes : List ℕ) (ls : List Line) → BeginWith v bytes ls [] → BeginWith v bytes (ls ++ []) []
begin_alone v bytes ls front = subst (λ (ms : List Line). BeginWith v bytes ms []) (sym (append-nil ls)) front

-- what follows where there is a value
pub if_some : {A : Type 0} (o : Option A) (P Q : A → Type 0) → IfSome o P → ((x : A) → P x → Q x) → IfSome o Q
if_some None P Q h f = tt
if_some (Some x) P Q h f = f x h

-- what holds of each result that is Ok holds of each value
pub all_ok : {X Y : Type 0} (E : Type 0) (R : X → Y → Type 0) (xs : List X) (ys : List Y)
    → AllZip (λ x (r : Result Y E). IfOk r (R x)) xs (map Ok ys) → AllZip R xs ys
all_ok E R [] [] h = tt
all_ok E R [] (y ∷ ys) h = absurd h
all_ok E R (x ∷ xs) [] h = absurd h
all_ok E R (x ∷ xs) (y ∷ ys) h = (h.0, all_ok E R xs ys h.1)

-- one more piece of a text
pub piece_more : {P : Type 0} (f : P → List ℕ) (pieces : List P) (p : P) (a b text : List ℕ)
    → flat_map f pieces ++ a ≡ text → f p ++ b ≡ a → flat_map f (pieces ++ p ∷ []) ++ b ≡ text
piece_more f pieces p a b text whole cut =
    ap (λ (t : List ℕ). t ++ b) (sym (flat_map_more f [] pieces p)) ∙ append_assoc (flat_map f pieces) (f p) b
    ∙ ap (λ (t : List ℕ). flat_map f pieces ++ t) cut ∙ whole
