-- The first wrong line of a books file: among the member lines, else among the total lines.
use Rattle.std.proofs.Common.{◌≡◌, ℕ, zero, suc, ◌+◌, ◌<◌, List, [], ◌∷◌, ◌++◌, length, get_or, take, map, Bool, true}
use Rattle.std.proofs.Common.{false, not, cond, Option, Some, None, refl, sym, subst, ap, ◌∙◌, inl, inr, arith}
use Rattle.std.specs.List.{position, position_from}
use Rattle.std.specs.Option.{option_eq}
use Rattle.std.proofs.lemmas.Bool.{cases_Bool}
use Rattle.std.proofs.lemmas.Iterator.Adapters.{position_from-zero}
use Rattle.std.proofs.Common.{add-zero, eqb, length-append}
use Rattle.std.proofs.lemmas.List.{length-map}
use Rattle.rx_ledger.specs.declared.member.Member.{Member}
use Rattle.rx_ledger.specs.declared.row.Row.{Row}
use Rattle.rx_books_text.specs.declared.line.Line.{Line}
use Rattle.rx_books_text.specs.declared.line.Line.TheVariants as line
use Rattle.rx_books_text.specs.Printed.{PrintedParts, lines_of, member_lines}
use Rattle.rx_books_store.specs.Figures.{are_sums, first_wrong, has_all_totals, is_figure, unsummed, wrong_from, wrong_line}
use Rattle.rx_books_store.proofs.Written.{member_lines-more}

-- ---- places

module _ {X : Type 0} (p : X → Bool) where
  abbrev pub from : ℕ → List X → Option ℕ
  from n xs = position_from p n xs

  pub from-back : (n : ℕ) (xs ys : List X) → from n xs ≡ None → from n (xs ++ ys) ≡ from (n + length xs) ys
  from-back n [] ys none = rw (add-zero n)
  from-back n (x ∷ xs) ys none = elim (cases_Bool (p x)) [
    | inl t ↦ absurd (let e : Some n ≡ None = rw t at none in cc)
    | inr f ↦
        let rest : from (n + 1) xs ≡ None = rw f at none in
        let place : n + 1 + length xs ≡ n + length (x ∷ xs) = omega arith in
        rw f (from-back (n + 1) xs ys rest ∙ ap (λ k. from k ys) place)
  ]

  pub from-front : (n i : ℕ) (xs ys : List X) → from n xs ≡ Some i → from n (xs ++ ys) ≡ Some i
  from-front n i [] ys some = absurd (let e : None ≡ Some i = some in cc)
  from-front n i (x ∷ xs) ys some = elim (cases_Bool (p x)) [
    | inl t ↦ rw t (rw t at some)
    | inr f ↦ rw f (from-front (n + 1) i xs ys (rw f at some))
  ]

  pub from-shift : (m n i : ℕ) (xs : List X) → from n xs ≡ Some i → from (m + n) xs ≡ Some (m + i)
  from-shift m n i [] some = absurd (let e : None ≡ Some i = some in cc)
  from-shift m n i (x ∷ xs) some = elim (cases_Bool (p x)) [
    | inl t ↦
        let e : Some n ≡ Some i = rw t at some in
        let same : n ≡ i = cc in
        rw t (ap (λ k. Some (m + k)) same)
    | inr f ↦
        let place : m + n + 1 ≡ m + (n + 1) = omega arith in
        rw f (ap (λ k. from k xs) place ∙ from-shift m (n + 1) i xs (rw f at some))
  ]

  pub from-none : (m n : ℕ) (xs : List X) → from n xs ≡ None → from m xs ≡ None
  from-none m n [] none = refl
  from-none m n (x ∷ xs) none = elim (cases_Bool (p x)) [
    | inl t ↦ absurd (let e : Some n ≡ None = rw t at none in cc)
    | inr f ↦ rw f (from-none (m + 1) (n + 1) xs (rw f at none))
  ]

from-map : {X Y : Type 0} (p : Y → Bool) (f : X → Y) (n : ℕ) (xs : List X)
    → position_from p n (map f xs) ≡ position_from (λ x. p (f x)) n xs
from-map p f n [] = refl
from-map p f n (x ∷ xs) = ap (λ r. cond (p (f x)) (Some n) r) (from-map p f (n + 1) xs)

-- ---- member lines

pub figure_tested : (sum : Option ℕ) (n : ℕ) → is_figure sum n ≡ option_eq eqb sum (Some n)
figure_tested None n = refl
figure_tested (Some m) n = refl

module _ (p : Line → Bool) where
  pub member-wrong : (k : ℕ) (ms : List Member) (ds : List ℕ) (i : ℕ) (m : Member) → i < length ms → i < length ds
      → m ≡ get_or ms i m → position_from p k (member_lines (take i ms) (take i ds)) ≡ None
      → p (line.Member (record { member = m; deductible = get_or ds i 0 })) ≡ true
      → position_from p k (member_lines ms ds) ≡ Some (k + i)
  member-wrong k [] ds i m lt below is none wrong = absurd (omega arith)
  member-wrong k (x ∷ ms) [] i m lt below is none wrong = absurd (omega arith)
  member-wrong k (x ∷ ms) (d ∷ ds) zero m lt below is none wrong =
      let here : p (line.Member (record { member = x; deductible = d })) ≡ true =
      subst (λ n. p (line.Member (record { member = n; deductible = d })) ≡ true) is wrong in
      rw (here, add-zero k) refl
  member-wrong k (x ∷ ms) (d ∷ ds) (suc i) m lt below is none wrong =
      elim (cases_Bool (p (line.Member (record { member = x; deductible = d })))) [
        | inl t ↦ absurd (let e : Some k ≡ None = rw t at none in cc)
        | inr f ↦
            let place : k + 1 + i ≡ k + suc i = omega arith in
            rw f (member-wrong (k + 1) ms ds i m (omega arith) (omega arith) is (rw f at none) wrong ∙ ap Some place)
      ]

  pub member-right : (ms : List Member) (ds : List ℕ) (i : ℕ) (m : Member) → i < length ms → i < length ds
      → m ≡ get_or ms i m → position_from p 0 (member_lines (take i ms) (take i ds)) ≡ None
      → p (line.Member (record { member = m; deductible = get_or ds i 0 })) ≡ false
      → position_from p 0 (member_lines (take (suc i) ms) (take (suc i) ds)) ≡ None
  member-right ms ds i m lt below is none right =
      rw (member_lines-more ms ds i m lt below is)
      (from-back p 0 (member_lines (take i ms) (take i ds)) (line.Member (record { member = m; deductible = get_or ds i 0 }) ∷ []) none
      ∙ rw right refl)

length-member_lines : (ms : List Member) (ds : List ℕ) → length ds ≡ length ms → length (member_lines ms ds) ≡ length ms
length-member_lines [] ds same = refl
length-member_lines (m ∷ ms) [] same = absurd (omega arith)
length-member_lines (m ∷ ms) (d ∷ ds) same = let rest = length-member_lines ms ds (omega arith) in omega arith

length-claims : (rows : List Row) → length (map (λ r. line.Claim r) rows) ≡ length rows
length-claims rows = simp length-map

-- ---- the whole file

module _ (p : PrintedParts) (one_each : length p.deductibles ≡ length p.ledger.members) where
  abbrev pub wrong : Line → Bool
  wrong l = not (are_sums (unsummed p) l)

  abbrev ms_lines : List Line
  ms_lines = member_lines p.ledger.members p.deductibles

  abbrev claims : List Line
  claims = map (λ r. line.Claim r) p.ledger.rows

  abbrev totals : List Line
  totals = map (λ t. line.Total t) p.totals

  first_is : first_wrong p ≡ position_from wrong 0 (ms_lines ++ (claims ++ totals))
  first_is = position_from-zero wrong (lines_of p)

  pub length-lines : length (lines_of p) ≡ length p.ledger.members + length p.ledger.rows + length p.totals
  length-lines =
      let t : length totals ≡ length p.totals = simp length-map in
      omega (
        arith,
        length-append ms_lines (claims ++ totals),
        length-append claims totals,
        t,
        length-member_lines p.ledger.members p.deductibles one_each,
        length-claims p.ledger.rows,
      )

  no_claim : (n : ℕ) (rows : List Row) → position_from wrong n (map (λ r. line.Claim r) rows) ≡ None
  no_claim n [] = refl
  no_claim n (r ∷ rows) = no_claim (n + 1) rows

  pub wrong-member : (i : ℕ) → position wrong ms_lines ≡ Some i → wrong_line p ≡ Some (i + 2)
  wrong-member i some = ap (wrong_from p) (first_is
      ∙ from-front wrong 0 i ms_lines (claims ++ totals) (sym (position_from-zero wrong ms_lines) ∙ some))

  module _ (none : position wrong ms_lines ≡ None) where
    behind : first_wrong p ≡ position_from (λ t. wrong (line.Total t)) (length p.ledger.members + length p.ledger.rows) p.totals
    behind =
        let count : 0 + length ms_lines + length claims ≡ length p.ledger.members + length p.ledger.rows =
        omega (arith, length-member_lines p.ledger.members p.deductibles one_each, length-claims p.ledger.rows) in
        first_is
        ∙ from-back wrong 0 ms_lines (claims ++ totals) (sym (position_from-zero wrong ms_lines) ∙ none)
        ∙ from-back wrong (0 + length ms_lines) claims totals (no_claim (0 + length ms_lines) p.ledger.rows)
        ∙ ap (λ n. position_from wrong n totals) count
        ∙ from-map wrong (λ t. line.Total t) (length p.ledger.members + length p.ledger.rows) p.totals

    pub wrong-total : (j : ℕ) → position (λ t. wrong (line.Total t)) p.totals ≡ Some j
        → wrong_line p ≡ Some (length p.ledger.members + length p.ledger.rows + 2 + j)
    wrong-total j some =
        let above = length p.ledger.members + length p.ledger.rows in
        let shifted : position_from (λ t. wrong (line.Total t)) (above + 0) p.totals ≡ Some (above + j) =
        from-shift (λ t. wrong (line.Total t)) above 0 j p.totals
        (sym (position_from-zero (λ t. wrong (line.Total t)) p.totals) ∙ some) in
        let at : first_wrong p ≡ Some (above + j) =
        behind ∙ ap (λ n. position_from (λ t. wrong (line.Total t)) n p.totals) (sym (add-zero above)) ∙ shifted in
        let place : above + j + 2 ≡ above + 2 + j = omega arith in
        ap (wrong_from p) at ∙ ap Some place

    module _ (right : position (λ t. wrong (line.Total t)) p.totals ≡ None) where
      nothing : first_wrong p ≡ None
      nothing = behind ∙ from-none (λ t. wrong (line.Total t)) (length p.ledger.members + length p.ledger.rows) 0 p.totals
          (sym (position_from-zero (λ t. wrong (line.Total t)) p.totals) ∙ right)

      pub none-wrong : has_all_totals p ≡ true → wrong_line p ≡ None
      none-wrong all = ap (wrong_from p) nothing ∙ rw all refl

      pub one-missing : has_all_totals p ≡ false
          → wrong_line p ≡ Some (length p.ledger.members + length p.ledger.rows + 2 + length p.totals)
      one-missing missing =
          let place : length (lines_of p) + 2 ≡ length p.ledger.members + length p.ledger.rows + 2 + length p.totals =
          omega (arith, length-lines) in
          ap (wrong_from p) nothing ∙ rw missing (ap Some place)
