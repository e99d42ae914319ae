-- The lines of members and rows, one after another.
use Rattle.std.proofs.Common.{◌≡◌, ℕ, zero, suc, ◌<◌, List, [], ◌∷◌, ◌++◌, length, get_or, take, map, refl, sym, ap, ◌∙◌, arith}
use Rattle.std.specs.Borrow.{Bor}
use Rattle.std.specs.List.{AllZip, flat_map}
use Rattle.std.specs.Vec.{vec_items}
use Rattle.std.specs.declared.vec.Vec.{Vec}
use Rattle.std.proofs.lemmas.Grind.{flat_map-append}
use Rattle.std.proofs.lemmas.List.{append-nil}
use Rattle.rx_ledger.specs.declared.member.Member.{Member}
use Rattle.rx_ledger.specs.declared.row.Row.{Row}
use Rattle.rx_books_text.specs.declared.line.Line.{Line}
use Rattle.rx_books_text.specs.declared.line.Line.TheVariants as line
use Rattle.rx_books_text.specs.declared.version.Version.TheVariants.{Three}
use Rattle.rx_books_text.specs.LineText.{ended, line_text}
use Rattle.rx_books_text.specs.Printed.{member_lines}
use Rattle.rx_books_store.specs.BooksText.{claims_text, lines_text}
use Rattle.rx_books_store.specs.Opening.{rows_text}

-- ---- lines

abbrev line_of : Line → List ℕ
line_of l = ended (line_text Three l)

pub lines_text-append : (ks ls : List Line) → lines_text (ks ++ ls) ≡ lines_text ks ++ lines_text ls
lines_text-append ks ls = flat_map-append line_of ks ls

-- one member's line more
pub member_lines-more : (ms : List Member) (ds : List ℕ) (i : ℕ) (m : Member) → i < length ms → i < length ds
    → m ≡ get_or ms i m → member_lines (take (suc i) ms) (take (suc i) ds)
    ≡ member_lines (take i ms) (take i ds) ++ line.Member (record { member = m; deductible = get_or ds i 0 }) ∷ []
member_lines-more [] ds i m lt below is = absurd (omega arith)
member_lines-more (x ∷ ms) [] i m lt below is = absurd (omega arith)
member_lines-more (x ∷ ms) (d ∷ ds) zero m lt below is =
    ap (λ n. line.Member (record { member = n; deductible = d }) ∷ []) (sym is)
member_lines-more (x ∷ ms) (d ∷ ds) (suc i) m lt below is =
    ap (λ ls. line.Member (record { member = x; deductible = d }) ∷ ls)
    (member_lines-more ms ds i m (omega arith) (omega arith) is)

pub claims-map : (rows : List Row) → lines_text (map (λ r. line.Claim r) rows) ≡ claims_text rows
claims-map [] = refl
claims-map (r ∷ rows) = ap (λ t. line_of (line.Claim r) ++ t) (claims-map rows)

-- the texts of pieces are that of the rows
pub texts-pieces : {P Z : Type 0} (rows_of : P → List (Bor Row)) (pieces : List P) (texts : List (Vec ℕ Z))
    → AllZip (λ piece text. text.items ≡ rows_text (rows_of piece)) pieces texts
    → flat_map vec_items texts ≡ rows_text (flat_map rows_of pieces)
texts-pieces rows_of [] [] all = refl
texts-pieces rows_of [] (text ∷ texts) all = absurd all
texts-pieces rows_of (piece ∷ pieces) [] all = absurd all
texts-pieces rows_of (piece ∷ pieces) (text ∷ texts) all =
    (λ i. all.0 i ++ texts-pieces rows_of pieces texts all.1 i)
    ∙ sym (flat_map-append (λ (r : Bor Row). line_of (line.Claim r.now)) (rows_of piece) (flat_map rows_of pieces))

-- the text of pieces that stand between two
pub between : {A : Type 0} (f : A → List ℕ) (above below : A) (pieces : List A)
    → flat_map f ((above ∷ pieces) ++ below ∷ []) ≡ f above ++ (flat_map f pieces ++ f below)
between f above below pieces =
    ap (λ t. f above ++ t) (flat_map-append f pieces (below ∷ [])
    ∙ ap (λ t. flat_map f pieces ++ t) (append-nil (f below)))
