-- A file that was read has one figure for each member, and no more lines than line feeds.
use Rattle.std.proofs.Common.{◌≡◌, ℕ, suc, ◌+◌, ◌≤◌, ltb, List, [], ◌∷◌, ◌++◌, length, eqb, true, Option, Some}
use Rattle.std.proofs.Common.{None, Result, Ok, Err, refl, subst, ap, ◌∙◌, inl, inr, arith, length-append}
use Rattle.std.specs.Prelude.{◌&&◌}
use Rattle.std.proofs.lemmas.Bool.{and_parts, cases_Bool, ltb-false}
use Rattle.std.proofs.lemmas.List.Splits.{length-slice_split}
use Rattle.rx_fields.specs.Order.{key_cmp}
use Rattle.rx_sorted.specs.Ascending.{is_past, put}
use Rattle.rx_sorted.proofs.Edits.{put-past}
use Rattle.rx_ledger.specs.Members.{member_cmp, member_key}
use Rattle.rx_ledger.specs.Rows.{row_key}
use Rattle.rx_ledger.proofs.Orders.{key_total, member_total}
use Rattle.rx_books_text.specs.declared.fault.BooksFault.{BooksFault}
use Rattle.rx_books_text.specs.declared.head.Head.{Head}
use Rattle.rx_books_text.specs.declared.line.Line.{Line}
use Rattle.rx_books_text.specs.declared.line.Line.TheVariants as line
use Rattle.rx_books_text.specs.LineReading.{head_of, line_of}
use Rattle.rx_books_text.specs.Printed.{PrintedParts, line_feeds, lines_of}
use Rattle.rx_books_text.specs.TextFault.{is_known, is_next, is_nil, no_lines, with_line}
use Rattle.rx_books_text.specs.TextReading.{behind_head, found_line, line_added, line_read, lines, lines_read, printed_of, text_read}
use Rattle.rx_books_store.proofs.Wrong.{length-lines}

-- one figure for each member, and at most this many lines after the head
pub record Holds (p : PrintedParts) (n : ℕ) : Type 0 where
  pub one_each : length p.deductibles ≡ length p.ledger.members
  pub few : length p.ledger.members + length p.ledger.rows + length p.totals ≤ n

more : (p : PrintedParts) (l : Line) (n : ℕ) → is_next p l ≡ true → Holds p n → Holds (with_line p l) (suc n)
more p (line.Member m) n next holds =
    let parts = and_parts (is_nil p.ledger.rows && is_nil p.totals)
    (is_past member_cmp member_key p.ledger.members m.member.key) next in
    let members : length (put member_cmp member_key p.ledger.members m.member) ≡ length p.ledger.members + 1 =
    ap length (put-past member_cmp member_total member_key p.ledger.members m.member parts.1)
    ∙ length-append p.ledger.members (m.member ∷ []) in
    let figures : length (p.deductibles ++ m.deductible ∷ []) ≡ length p.deductibles + 1 =
    length-append p.deductibles (m.deductible ∷ []) in
    record { one_each = omega (arith, holds.one_each); few = omega (arith, holds.few) }
more p (line.Claim r) n next holds =
    let parts = and_parts (is_nil p.totals) (is_past key_cmp row_key p.ledger.rows r.key) next in
    let rows : length (put key_cmp row_key p.ledger.rows r) ≡ length p.ledger.rows + 1 =
    ap length (put-past key_cmp key_total row_key p.ledger.rows r parts.1) ∙ length-append p.ledger.rows (r ∷ []) in
    record { one_each = holds.one_each; few = omega (arith, holds.few) }
more p (line.Total t) n next holds =
    let totals : length (p.totals ++ t ∷ []) ≡ length p.totals + 1 = length-append p.totals (t ∷ []) in
    record { one_each = holds.one_each; few = omega (arith, holds.few) }

added : (k : ℕ) (p q : PrintedParts) (l : Line) (n : ℕ) → line_added k p l ≡ Ok q → Holds p n → Holds q (suc n)
added k p q l n is holds = elim (cases_Bool (is_next p l)) [
  | inl next ↦ elim (cases_Bool (is_known p l)) [
    | inl known ↦
        let e : Ok (with_line p l) ≡ Ok q = rw (next, known) at is in
        let same : with_line p l ≡ q = cc in
        subst (λ x. Holds x (suc n)) same (more p l n next holds)
    | inr unknown ↦ absurd (let e = rw (next, unknown) at is in cc)
  ]
  | inr other ↦ absurd (let e = rw other at is in cc)
]

found : (k : ℕ) (p q : PrintedParts) (o : Option Line) (n : ℕ) → found_line k p o ≡ Ok q → Holds p n → Holds q (suc n)
found k p q None n is holds = cc
found k p q (Some l) n is holds = added k p q l n is holds

one_read : (k : ℕ) (p q : PrintedParts) (text : List ℕ) (n : ℕ) → line_read k p text ≡ Ok q → Holds p n → Holds q (suc n)
unfolding line_read
one_read k p q text n is holds = found k p q (line_of p.head.version text) n is holds

all_read : (k : ℕ) (p q : PrintedParts) (texts : List (List ℕ)) (n : ℕ) → lines_read k p texts ≡ Ok q → Holds p n
    → Holds q (n + length texts)
unfolding lines_read
all_read k p q [] n is holds =
    let same : p ≡ q = cc in
    let place : n ≡ n + 0 = omega arith in
    subst (λ x. Holds x (n + 0)) same (subst (Holds p) place holds)
all_read k p q (last ∷ []) n is holds = elim (cases_Bool (eqb (length last) 0)) [
  | inl t ↦
      let e : Ok p ≡ Ok q = rw t at is in
      let same : p ≡ q = cc in
      subst (λ x. Holds x (n + 1)) same (record { one_each = holds.one_each; few = omega (arith, holds.few) })
  | inr f ↦ absurd (let e = rw f at is in cc)
]
all_read k p q (text ∷ next ∷ texts) n is holds =
    by_line (line_read k p text) refl (λ x rest held. all_read (k + 1) x q (next ∷ texts) (suc n) rest held)
  where
    by_line : (r : Result PrintedParts BooksFault) → line_read k p text ≡ r
        → ((x : PrintedParts) → lines_read (k + 1) x (next ∷ texts) ≡ Ok q → Holds x (suc n)
        → Holds q (suc n + length (next ∷ texts))) → Holds q (n + length (text ∷ next ∷ texts))
    by_line (Ok x) read others =
        let rest : lines_read (k + 1) x (next ∷ texts) ≡ Ok q = rw read at is in
        let after = others x rest (one_read k p x text n read holds) in
        record { one_each = after.one_each; few = omega (arith, after.few) }
    by_line (Err f) read others = absurd (let e = rw read at is in cc)

whole_read : (texts : List (List ℕ)) (q : PrintedParts) → text_read texts ≡ Ok q → Holds q (length texts)
unfolding text_read
whole_read [] q is = cc
whole_read (last ∷ []) q is = cc
whole_read (text ∷ next ∷ texts) q is = by_head (head_of text) is
  where
    by_head : (h : Option Head) → behind_head h (next ∷ texts) ≡ Ok q → Holds q (length (text ∷ next ∷ texts))
    by_head None is = cc
    by_head (Some h) is =
        let after = all_read 2 (no_lines h) q (next ∷ texts) 0 is (record { one_each = refl; few = omega arith }) in
        record { one_each = after.one_each; few = omega (arith, after.few) }

pub lines_few : (p : PrintedParts) (n : ℕ) → Holds p n → length (lines_of p) ≤ n
lines_few p n holds = omega (arith, length-lines p holds.one_each, holds.few)

pub printed_holds : (text : List ℕ) (q : PrintedParts) → printed_of text ≡ Ok q → Holds q 1_000_001
printed_holds text q is = elim (cases_Bool (ltb 1_000_000 (line_feeds text))) [
  | inl t ↦ absurd (let e = rw t at is in cc)
  | inr f ↦
      let read : text_read (lines text) ≡ Ok q = rw f at is in
      let after = whole_read (lines text) q read in
      let count : length (lines text) ≡ line_feeds text + 1 = length-slice_split (λ b. eqb b 10) text in
      let few : line_feeds text ≤ 1_000_000 = ltb-false 1_000_000 (line_feeds text) f in
      record { one_each = after.one_each; few = omega (arith, after.few) }
]
