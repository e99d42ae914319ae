-- The text of the books is that of their parts: the members, the rows that stand, and the families.
use Rattle.std.proofs.Common.{◌≡◌, ℕ, zero, suc, ◌<◌, List, [], ◌∷◌, ◌++◌, length, get_or, take, map, Some, append_assoc, refl, sym, ap, ◌∙◌, arith}
use Rattle.rx_fields.specs.Numbered.{Span}
use Rattle.rx_ledger.specs.Ledger.{Ledger}
use Rattle.rx_ledger.specs.Sums.{family_deductible, out_of_pocket}
use Rattle.rx_books_text.specs.declared.line.Line.{Line}
use Rattle.rx_books_text.specs.declared.line.Line.TheVariants as line
use Rattle.rx_books_text.specs.declared.version.Version.TheVariants.{Three}
use Rattle.rx_books_text.specs.LineText.{ended, head_text}
use Rattle.rx_books_text.specs.Printed.{member_lines}
use Rattle.rx_books_store.specs.declared.opening.FamilyName.{FamilyName}
use Rattle.rx_books_store.specs.BooksText.{above_text, below_text, books_text, claims_text, deductibles_of}
use Rattle.rx_books_store.specs.BooksText.{families_of, lines_text, total_of}
use Rattle.rx_books_store.specs.Opening.{names_of, total_lines}
use Rattle.rx_books_store.specs.Store.{AreFigures}
use Rattle.rx_books_store.proofs.Written.{claims-map, lines_text-append}

-- one family's line more
pub total_lines-more : (ns : List FamilyName) (ps ds : List ℕ) (i : ℕ) (n : FamilyName) → i < length ns → i < length ps
    → i < length ds → n ≡ get_or ns i n → total_lines (take (suc i) ns) (take (suc i) ps) (take (suc i) ds)
    ≡ total_lines (take i ns) (take i ps) (take i ds)
    ++ line.Total (record { family = n.family; out_of_pocket = get_or ps i 0; deductible = Some (get_or ds i 0) }) ∷ []
total_lines-more [] ps ds i n lt pt dt is = absurd (omega arith)
total_lines-more (x ∷ ns) [] ds i n lt pt dt is = absurd (omega arith)
total_lines-more (x ∷ ns) (p ∷ ps) [] i n lt pt dt is = absurd (omega arith)
total_lines-more (x ∷ ns) (p ∷ ps) (d ∷ ds) zero n lt pt dt is =
    ap (λ (m : FamilyName). line.Total (record { family = m.family; out_of_pocket = p; deductible = Some d }) ∷ []) (sym is)
total_lines-more (x ∷ ns) (p ∷ ps) (d ∷ ds) (suc i) n lt pt dt is =
    ap (λ ls. line.Total (record { family = x.family; out_of_pocket = p; deductible = Some d }) ∷ ls)
    (total_lines-more ns ps ds i n (omega arith) (omega arith) (omega arith) is)

-- the lines of the families, where the figures are read off the ledger
total_lines-map : (p : Span) (L : Ledger) (ns : List FamilyName)
    → total_lines ns (map (out_of_pocket p L) (names_of ns)) (map (family_deductible p L) (names_of ns))
    ≡ map (λ t. line.Total t) (map (total_of Three p L) (names_of ns))
total_lines-map p L [] = refl
total_lines-map p L (n ∷ ns) = ap (λ ls. line.Total (total_of Three p L n.family) ∷ ls) (total_lines-map p L ns)

-- what is kept prints what stands below the claims
pub below-kept : (p : Span) (L : Ledger) (ns : List FamilyName) (ds os fs : List ℕ) → names_of ns ≡ families_of L.members
    → AreFigures p L ds os fs → lines_text (total_lines ns os fs) ≡ below_text p L
unfolding below_text
below-kept p L ns ds os fs all are =
    let pockets : os ≡ map (out_of_pocket p L) (names_of ns) = are.of_pockets ∙ ap (map (out_of_pocket p L)) (sym all) in
    let theirs : fs ≡ map (family_deductible p L) (names_of ns) = are.of_families ∙ ap (map (family_deductible p L)) (sym all) in
    ap lines_text (ap (λ xs. total_lines ns xs fs) pockets
    ∙ ap (λ xs. total_lines ns (map (out_of_pocket p L) (names_of ns)) xs) theirs
    ∙ total_lines-map p L ns ∙ ap (λ gs. map (λ t. line.Total t) (map (total_of Three p L) gs)) all)

-- and above them
pub above-kept : (p : Span) (L : Ledger) (ds os fs : List ℕ) → AreFigures p L ds os fs
    → ended (head_text (record { version = Three; period = p })) ++ lines_text (member_lines L.members ds) ≡ above_text p L
unfolding above_text
above-kept p L ds os fs are =
    ap (λ xs. ended (head_text (record { version = Three; period = p })) ++ lines_text (member_lines L.members xs)) are.of_members

-- the text is what stands above the claims, their lines, and what stands below them
pub books_text-parts : (p : Span) (L : Ledger)
    → above_text p L ++ (claims_text L.rows ++ below_text p L) ≡ books_text Three p L
unfolding above_text below_text
books_text-parts p L =
    let head = ended (head_text (record { version = Three; period = p })) in
    let members = member_lines L.members (deductibles_of p L) in
    let total_list : List Line = map (λ t. line.Total t) (map (total_of Three p L) (families_of L.members)) in
    let claim_list : List Line = map (λ r. line.Claim r) L.rows in
    append_assoc head (lines_text members) (claims_text L.rows ++ lines_text total_list)
    ∙ ap (λ t. head ++ t) (ap (λ t. lines_text members ++ t)
    (ap (λ t. t ++ lines_text total_list) (sym (claims-map L.rows)) ∙ sym (lines_text-append claim_list total_list))
    ∙ sym (lines_text-append members (claim_list ++ total_list)))

-- the same of a text to which each was put
pub books_text-put : (p : Span) (L : Ledger) (one two text : List ℕ) → one ≡ above_text p L → two ≡ one ++ claims_text L.rows
    → text ≡ two ++ below_text p L → text ≡ books_text Three p L
books_text-put p L one two text first second third =
    third ∙ ap (λ t. t ++ below_text p L) (second ∙ ap (λ t. t ++ claims_text L.rows) first)
    ∙ append_assoc (above_text p L) (claims_text L.rows) (below_text p L) ∙ books_text-parts p L
