-- Fields one after another are a line.
use Rattle.std.proofs.Common.{◌≡◌, ℕ, ◌^◌, ◌<◌, ◌≤◌, List, [], ◌∷◌, ◌++◌, Some, sym, ap, subst, ◌∙◌, arith, append_assoc, append-nil}
use Rattle.std.specs.Fmt.{decimal}
use Rattle.std.proofs.lemmas.List.Elements.{All-nil, All-cons}
use Rattle.rx_fields.specs.declared.key.Key.{Key}
use Rattle.rx_fields.specs.Bounds.{bounded}
use Rattle.rx_fields.specs.Calendar.{Civil, IsCivil, date_text}
use Rattle.rx_fields.specs.Digits.{digits_text}
use Rattle.rx_fields.specs.Numbered.{Span, is_span, period_of}
use Rattle.rx_fields.specs.Text.{IsId}
use Rattle.rx_d0_values.specs.declared.pricing.Amounts.{Amounts}
use Rattle.rx_d0_values.specs.Priced.{is_priced}
use Rattle.rx_ledger.specs.declared.member.MemberKey.{MemberKey}
use Rattle.rx_ledger.specs.declared.row.Row.{Row}
use Rattle.rx_ledger.specs.Rows.{row_of}
use Rattle.rx_books_text.specs.declared.line.Line.{Line}
use Rattle.rx_books_text.specs.declared.line.Line.TheVariants as line
use Rattle.rx_books_text.specs.declared.line.MemberLine.{MemberLine}
use Rattle.rx_books_text.specs.declared.line.TotalLine.{TotalLine}
use Rattle.rx_books_text.specs.declared.version.Version.TheVariants.{Three}
use Rattle.rx_books_text.specs.LineFits.{IsLine}
use Rattle.rx_books_text.specs.LineText.{line_text, ended}
use Rattle.rx_books_text.proofs.ClaimLaws.{mapped}
use Rattle.rx_books_text.proofs.NumberLaws.{bounded_is}
use Rattle.rx_text.proofs.Steps.{guarded, some_same}
use Rattle.rx_books_scan.specs.Fields.{IsDispensed, IsKey, IsMemberKey, followed}
use Rattle.rx_books_scan.specs.Lists.{BeginWith}

-- one line, of the version, and what follows it
one_line : (l : Line) (bytes rest : List ℕ) → IsLine Three l → bytes ≡ line_text Three l ++ 10 ∷ rest
    → BeginWith Three bytes (l ∷ []) rest
one_line l bytes rest fits whole = record {
  whole = whole ∙ sym (append_assoc (line_text Three l) (10 ∷ []) rest)
      ∙ ap (λ (t : List ℕ). t ++ rest) (sym (append-nil (ended (line_text Three l))));
  fits = All-cons (IsLine Three) l [] fits (All-nil (IsLine Three));
}

-- ---- what a constructor let through

pub bounded_fits : (low high n m : ℕ) → Some m ≡ bounded low high n → (n ≡ m) × (low ≤ m) × (m ≤ high)
bounded_fits low high n m e = bounded_is low high n m (sym e)

-- ---- claims

-- the parts of a claim line, and what follows it
abbrev pub claim_parts : Key → MemberKey → ℕ → ℕ → ℕ → Amounts → ℕ → List ℕ → List ℕ
claim_parts key member product quantity days a number rest =
    followed (key.provider ∷ decimal key.reference ∷ date_text key.date ∷ [])
    (followed (member.family ∷ member.person ∷ [])
    (followed (digits_text 11 product ∷ decimal quantity ∷ decimal days ∷ [])
    (followed (decimal a.ingredient_cost ∷ decimal a.dispensing_fee ∷ decimal a.deductible ∷ decimal a.copay ∷ decimal a.coinsurance ∷ [])
    (digits_text 15 number ++ 10 ∷ rest))))

pub claim_begin : (key : Key) (member : MemberKey) (product quantity days : ℕ) (a : Amounts) (number : ℕ) (r : Row)
    (bytes b1 b2 b3 b4 b5 rest : List ℕ)
    → bytes ≡ 67 ∷ 124 ∷ b1
    → b1 ≡ followed (key.provider ∷ decimal key.reference ∷ date_text key.date ∷ []) b2 → IsKey key
    → b2 ≡ followed (member.family ∷ member.person ∷ []) b3 → IsMemberKey member
    → b3 ≡ followed (digits_text 11 product ∷ decimal quantity ∷ decimal days ∷ []) b4 → IsDispensed product quantity days
    → b4 ≡ followed (decimal a.ingredient_cost ∷ decimal a.dispensing_fee ∷ decimal a.deductible ∷ decimal a.copay ∷ decimal
    a.coinsurance ∷ []) b5
    → b5 ≡ digits_text 15 number ++ 10 ∷ rest → number ≤ 999_999_999_999_999
    → Some r ≡ row_of key member.family member.person product quantity days a number
    → BeginWith Three bytes (line.Claim r ∷ []) rest
claim_begin key member product quantity days a number r bytes b1 b2 b3 b4 b5 rest e0 e1 k e2 m e3 d e4 e5 n e =
    let made : Row =
    record {
      key = key;
      family = member.family;
      person = member.person;
      product = product;
      quantity = quantity;
      days = days;
      pricing = a;
      number = number;
    } in
    let row = mapped (λ (p : Amounts). record made { pricing = p }) (is_priced a) a r (sym e) in
    let whole : bytes ≡ 67 ∷ 124 ∷ claim_parts key member product quantity days a number rest =
    e0 ∙ ap (λ (t : List ℕ). 67 ∷ 124 ∷ t) (
    e1 ∙ ap (followed (key.provider ∷ decimal key.reference ∷ date_text key.date ∷ [])) (
    e2 ∙ ap (followed (member.family ∷ member.person ∷ [])) (
    e3 ∙ ap (followed (digits_text 11 product ∷ decimal quantity ∷ decimal days ∷ [])) (
    e4 ∙ ap (followed (decimal a.ingredient_cost ∷ decimal a.dispensing_fee ∷ decimal a.deductible ∷ decimal a.copay ∷ decimal
    a.coinsurance ∷ [])) e5
    )
    )
    )
    ) in
    let text : line_text Three (line.Claim made) ++ 10 ∷ rest ≡ 67 ∷ 124 ∷ claim_parts key member product quantity days a number rest =
    simp append_assoc in
    subst (λ (s : Row). BeginWith Three bytes (line.Claim s ∷ []) rest) row.1
    (one_line (line.Claim made) bytes rest
    (record {
      provider = k.provider;
      reference = k.reference;
      date = k.date;
      family = m.family;
      person = m.person;
      product = d.product;
      quantity = d.quantity;
      days = d.days;
      pricing = row.0;
      coinsurance = tt;
      number = n;
    })
    (whole ∙ sym text))

-- ---- members

pub member_begin : (key : MemberKey) (first last : Civil) (n : ℕ) (p : Span) (bytes b1 b2 b3 b4 rest : List ℕ)
    → bytes ≡ 77 ∷ 124 ∷ b1 → b1 ≡ followed (key.family ∷ key.person ∷ []) b2 → IsMemberKey key
    → b2 ≡ date_text first ++ 124 ∷ b3 → IsCivil first → b3 ≡ date_text last ++ 124 ∷ b4 → IsCivil last
    → b4 ≡ decimal n ++ 10 ∷ rest → n < 10 ^ 18 → Some p ≡ period_of first last
    → BeginWith Three bytes (line.Member (record { member = record { key = key; coverage = p }; deductible = n }) ∷ []) rest
member_begin key first last n p bytes b1 b2 b3 b4 rest e0 e1 k e2 f e3 l e4 small e =
    let made : Span = record { first = first; last = last } in
    let g = guarded (is_span made) (Some made) p (sym e) in
    let m : MemberLine = record { member = record { key = key; coverage = made }; deductible = n } in
    let whole : bytes ≡ 77 ∷ 124 ∷ followed (key.family ∷ key.person ∷ date_text first ∷ date_text last ∷ []) (decimal n ++ 10 ∷ rest) =
    e0 ∙ ap (λ (t : List ℕ). 77 ∷ 124 ∷ t) (e1 ∙ ap (followed (key.family ∷ key.person ∷ []))
    (e2 ∙ ap (λ (t : List ℕ). date_text first ++ 124 ∷ t) (e3 ∙ ap (λ (t : List ℕ). date_text last ++ 124 ∷ t) e4))) in
    let text : line_text Three (line.Member m) ++ 10 ∷ rest
    ≡ 77 ∷ 124 ∷ followed (key.family ∷ key.person ∷ date_text first ∷ date_text last ∷ []) (decimal n ++ 10 ∷ rest) =
    simp append_assoc in
    subst (λ (s : Span). BeginWith Three bytes
    (line.Member (record { member = record { key = key; coverage = s }; deductible = n }) ∷ []) rest) (some_same g.1)
    (one_line (line.Member m) bytes rest
    (record {
      family = k.family;
      person = k.person;
      coverage = record { first = f; last = l; in_order = g.0 };
      deductible = omega (arith, small);
    })
    (whole ∙ sym text))

-- ---- totals

pub total_begin : (family : List ℕ) (out n : ℕ) (bytes b1 b2 b3 rest : List ℕ) → bytes ≡ 84 ∷ 124 ∷ b1
    → b1 ≡ family ++ 124 ∷ b2 → IsId 20 family → b2 ≡ decimal out ++ 124 ∷ b3 → out < 10 ^ 18
    → b3 ≡ decimal n ++ 10 ∷ rest → n < 10 ^ 18
    → BeginWith Three bytes (line.Total (record { family = family; out_of_pocket = out; deductible = Some n }) ∷ []) rest
total_begin family out n bytes b1 b2 b3 rest e0 e1 id e2 few e3 small =
    let t : TotalLine = record { family = family; out_of_pocket = out; deductible = Some n } in
    let whole : bytes ≡ 84 ∷ 124 ∷ followed (family ∷ decimal out ∷ []) (decimal n ++ 10 ∷ rest) =
    e0 ∙ ap (λ (u : List ℕ). 84 ∷ 124 ∷ u) (e1 ∙ ap (λ (u : List ℕ). family ++ 124 ∷ u)
    (e2 ∙ ap (λ (u : List ℕ). decimal out ++ 124 ∷ u) e3)) in
    let text : line_text Three (line.Total t) ++ 10 ∷ rest ≡ 84 ∷ 124 ∷ followed (family ∷ decimal out ∷ []) (decimal n ++ 10 ∷ rest) =
    simp append_assoc in
    one_line (line.Total t) bytes rest
    (record { family = id; out_of_pocket = omega (arith, few); deductible = omega (arith, small) })
    (whole ∙ sym text)
