-- A line is read as what its spelling says.
use Rattle.std.proofs.Common.{◌≡◌, ℕ, eqb, List, [], ◌∷◌, Some, ap, subst, ◌∙◌, inl, inr}
use Rattle.std.specs.Option.{option_map}
use Rattle.std.proofs.lemmas.Bool.{cases_Bool, eqb-true}
use Rattle.rx_ledger.specs.declared.row.Row.{Row}
use Rattle.rx_books_text.specs.declared.line.Line.{Line}
use Rattle.rx_books_text.specs.declared.line.Line.TheVariants as line
use Rattle.rx_books_text.specs.declared.line.MemberLine.{MemberLine}
use Rattle.rx_books_text.specs.declared.line.TotalLine.{TotalLine}
use Rattle.rx_books_text.specs.declared.version.Version.{Version}
use Rattle.rx_books_text.specs.LineFits.{IsLine}
use Rattle.rx_books_text.specs.LineReading.{member_in, claim_in, total_in, line_in, line_of}
use Rattle.rx_books_text.specs.LineText.{line_text}
use Rattle.rx_text.proofs.Steps.{guarded}
use Rattle.rx_books_text.proofs.Befores.{wrapped}
use Rattle.rx_books_text.proofs.MemberLaws.{member_takes, member_again}
use Rattle.rx_books_text.proofs.ClaimLaws.{claim_takes, claim_again}
use Rattle.rx_books_text.proofs.TotalLaws.{total_takes, total_again}

pub line_in_takes : (v : Version) (kind : ℕ) (bs : List ℕ) (l : Line) → line_in v kind bs ≡ Some l
    → IsLine v l × (kind ∷ 124 ∷ bs ≡ line_text v l)
line_in_takes v kind bs l e = elim (cases_Bool (eqb kind 77)) [
  | inl member ↦
      let x = wrapped (λ (m : MemberLine). line.Member m) (member_in bs) l (rw member at e) in
      let t = member_takes bs x.0 x.1 in
      subst (λ (k : Line). IsLine v k × (kind ∷ 124 ∷ bs ≡ line_text v k)) x.2
      (t.1, λ j. eqb-true kind 77 member j ∷ 124 ∷ t.0 j)
  | inr no_member ↦ elim (cases_Bool (eqb kind 67)) [
    | inl claim ↦
        let x = wrapped (λ (r : Row). line.Claim r) (claim_in v bs) l (rw (no_member, claim) at e) in
        let t = claim_takes v bs x.0 x.1 in
        subst (λ (k : Line). IsLine v k × (kind ∷ 124 ∷ bs ≡ line_text v k)) x.2
        (t.1, λ j. eqb-true kind 67 claim j ∷ 124 ∷ t.0 j)
    | inr no_claim ↦ elim (cases_Bool (eqb kind 84)) [
      | inl total ↦
          let x = wrapped (λ (t : TotalLine). line.Total t) (total_in v bs) l (rw (no_member, no_claim, total) at e) in
          let t = total_takes v bs x.0 x.1 in
          subst (λ (k : Line). IsLine v k × (kind ∷ 124 ∷ bs ≡ line_text v k)) x.2
          (t.1, λ j. eqb-true kind 84 total j ∷ 124 ∷ t.0 j)
      | inr no_total ↦ absurd (let none = rw (no_member, no_claim, no_total) at e in cc)
    ]
  ]
]

pub line_takes : (v : Version) (bs : List ℕ) (l : Line) → line_of v bs ≡ Some l → IsLine v l × (bs ≡ line_text v l)
unfolding line_of
line_takes v [] l e = absurd cc
line_takes v (kind ∷ []) l e = absurd cc
line_takes v (kind ∷ bar ∷ bs) l e =
    let g = guarded (eqb bar 124) (line_in v kind bs) l e in
    let t = line_in_takes v kind bs l g.1 in
    (t.0, ap (λ (b : ℕ). kind ∷ b ∷ bs) (eqb-true bar 124 g.0) ∙ t.1)

pub line_again : (v : Version) (l : Line) → IsLine v l → line_of v (line_text v l) ≡ Some l
unfolding line_of
line_again v (line.Member m) is = ap (option_map (λ (x : MemberLine). line.Member x)) (member_again m is)
line_again v (line.Claim r) is = ap (option_map (λ (x : Row). line.Claim x)) (claim_again v r is)
line_again v (line.Total t) is = ap (option_map (λ (x : TotalLine). line.Total x)) (total_again v t is)
