-- Parts one after another.
use Rattle.std.proofs.Common.{◌≡◌, ℕ, Bool, true, false, List, [], ◌∷◌, ◌++◌, length, refl}
use Rattle.std.proofs.Common.{ap, ◌∙◌, inl, inr, arith, append_assoc, append-nil}
use Rattle.std.specs.Prelude.{◌⊎◌, ◌||◌, ◌&&◌}
use Rattle.std.specs.List.{flat_map}
use Rattle.std.proofs.lemmas.Bool.{eqb-true, and_parts}
use Rattle.std.proofs.lemmas.List.{nil_from_length, map-append}
use Rattle.rx_ledger.specs.declared.member.Member.{Member}
use Rattle.rx_ledger.specs.declared.row.Row.{Row}
use Rattle.rx_books_text.specs.declared.line.Line.{Line}
use Rattle.rx_books_text.specs.declared.line.Line.TheVariants as line
use Rattle.rx_books_text.specs.declared.line.TotalLine.{TotalLine}
use Rattle.rx_books_text.specs.Printed.{member_lines}
use Rattle.rx_books_scan.specs.Lists.{claim_lines, total_lines, lines_in}
use Rattle.rx_books_scan.specs.Parts.{is_none}

or_cases : (a b : Bool) → (a || b) ≡ true → (a ≡ true) ⊎ (b ≡ true)
or_cases true b e = inl refl
or_cases false b e = inr e

nil_of : {A : Type 0} (xs : List A) → is_none xs ≡ true → xs ≡ []
nil_of xs e = nil_from_length xs (eqb-true (length xs) 0 e)

pub member_lines-append : (ms ns : List Member) (ds es : List ℕ) → length ds ≡ length ms
    → member_lines (ms ++ ns) (ds ++ es) ≡ member_lines ms ds ++ member_lines ns es
member_lines-append [] ns [] es same = refl
member_lines-append [] ns (d ∷ ds) es same = absurd (omega arith)
member_lines-append (m ∷ ms) ns [] es same = absurd (omega arith)
member_lines-append (m ∷ ms) ns (d ∷ ds) es same =
    ap (λ (ls : List Line). line.Member (record { member = m; deductible = d }) ∷ ls)
    (member_lines-append ms ns ds es (omega arith))

-- three kinds after three, where no kind stands before an earlier one
kinds : (m n r s t u : List Line) → (n ≡ []) ⊎ ((r ≡ []) × (t ≡ [])) → (s ≡ []) ⊎ (t ≡ [])
    → (m ++ n) ++ ((r ++ s) ++ (t ++ u)) ≡ (m ++ (r ++ t)) ++ (n ++ (s ++ u))
kinds m n r s t u (inl a) (inl b) = rw (a, b) (simp (append-nil, append_assoc))
kinds m n r s t u (inl a) (inr b) = rw (a, b) (simp (append-nil, append_assoc))
kinds m n r s t u (inr a) b =
    let c = a.0 in
    let d = a.1 in
    rw (c, d) (simp (append-nil, append_assoc))

-- the lines of lists are those of one part, and after them those of another
pub behind : {Y : Type 0} (f : Y → List Row) (runs : List Y) (ms ns : List Member) (ds es : List ℕ) (rows : List Row)
    (ts us : List TotalLine) → length ds ≡ length ms
    → ((is_none ns || (is_none runs && is_none ts)) && (is_none rows || is_none ts)) ≡ true
    → lines_in (ms ++ ns) (ds ++ es) (flat_map f runs ++ rows) (ts ++ us)
    ≡ lines_in ms ds (flat_map f runs) ts ++ lines_in ns es rows us
behind f runs ms ns ds es rows ts us same follows =
    let tests = and_parts (is_none ns || (is_none runs && is_none ts)) (is_none rows || is_none ts) follows in
    let first : (member_lines ns es ≡ []) ⊎ ((claim_lines (flat_map f runs) ≡ []) × (total_lines ts ≡ [])) =
    elim (or_cases (is_none ns) (is_none runs && is_none ts) tests.0) [
      | inl none ↦ inl (ap (λ (xs : List Member). member_lines xs es) (nil_of ns none))
      | inr both ↦
          let none = and_parts (is_none runs) (is_none ts) both in
          inr (ap (λ ys. claim_lines (flat_map f ys)) (nil_of runs none.0), ap total_lines (nil_of ts none.1))
    ] in
    let second : (claim_lines rows ≡ []) ⊎ (total_lines ts ≡ []) =
    elim (or_cases (is_none rows) (is_none ts) tests.1) [
      | inl none ↦ inl (ap claim_lines (nil_of rows none))
      | inr none ↦ inr (ap total_lines (nil_of ts none))
    ] in
    (λ j. member_lines-append ms ns ds es same j
    ++ (map-append (λ (r : Row). line.Claim r) (flat_map f runs) rows j
    ++ map-append (λ (t : TotalLine). line.Total t) ts us j))
    ∙ kinds (member_lines ms ds) (member_lines ns es) (claim_lines (flat_map f runs)) (claim_lines rows)
    (total_lines ts) (total_lines us) first second
