-- One more row, of those of a family that count in a period.
use Rattle.std.specs.Prelude.{◌&&◌, IfOk, Result, Ok, Err, Vec}
use Rattle.std.proofs.Common.{◌≡◌, ℕ, ◌+◌, ◌<◌, ◌++◌, Bool, true, false, List, [], ◌∷◌}
use Rattle.std.proofs.Common.{length, map, take, get_or, refl, sym, ap, ◌∙◌, inl, inr}
use Rattle.std.specs.List.{filter, list_any}
use Rattle.std.proofs.lemmas.Bool.{cases_Bool}
use Rattle.std.proofs.lemmas.List.{append-nil, map_push, take_more}
use Rattle.std.proofs.lemmas.List.Elements.{filter-append}
use Rattle.rx_d0_values.specs.declared.bill.BillParts.{BillParts}
use Rattle.rx_fields.specs.Numbered.{Span}
use Rattle.rx_ledger.specs.declared.row.Row.{Row}
use Rattle.rx_ledger.specs.Ledger.{Ledger, rows_of}
use Rattle.rx_ledger.specs.Rows.{claimed_by}
use Rattle.rx_explain.specs.Shown.{counts_in, is_counted}

module _ {X : Type 0} (p : X → Bool) (xs : List X) (i : ℕ) (x : X) (within : i < length xs) (is : x ≡ get_or xs i x) where
  one_more : take (i + 1) xs ≡ take i xs ++ x ∷ []
  one_more = take_more xs i x within ∙ ap (λ y. take i xs ++ y ∷ []) (sym is)

  pub filter_yes : p x ≡ true → filter p (take (i + 1) xs) ≡ filter p (take i xs) ++ x ∷ []
  filter_yes passes = rw (one_more, filter-append p (take i xs) (x ∷ []), passes) refl

  pub filter_no : p x ≡ false → filter p (take (i + 1) xs) ≡ filter p (take i xs)
  filter_no fails = rw (one_more, filter-append p (take i xs) (x ∷ []), fails) (simp append-nil)

-- what is said of each item so far, and of one more
pub mapped_more : {X Y : Type 0} (f : X → Y) (xs : List X) (i : ℕ) (x : X) → i < length xs → x ≡ get_or xs i x
    → map f (take (i + 1) xs) ≡ map f (take i xs) ++ f x ∷ []
mapped_more f xs i x within is =
    ap (map f) (take_more xs i x within ∙ ap (λ y. take i xs ++ y ∷ []) (sym is)) ∙ map_push f (take i xs) x

-- what passes both tests is what passes the second of what passes the first
pub filter_both : {X : Type 0} (p q : X → Bool) (xs : List X) → filter (λ x. p x && q x) xs ≡ filter q (filter p xs)
filter_both p q [] = refl
filter_both p q (x ∷ xs) = elim (cases_Bool (p x)) [
  | inl passes ↦ elim (cases_Bool (q x)) [
    | inl both ↦ rw (passes, both) (ap (λ ys. x ∷ ys) (filter_both p q xs))
    | inr one ↦ rw (passes, one) (filter_both p q xs)
  ]
  | inr fails ↦ rw fails (filter_both p q xs)
]

-- some item passes both tests where one that passes the first passes the second
pub any_of_passed : {X : Type 0} (p q : X → Bool) (xs : List X) → list_any (λ x. p x && q x) xs ≡ list_any q (filter p xs)
any_of_passed p q [] = refl
any_of_passed p q (x ∷ xs) = elim (cases_Bool (p x)) [
  | inl passes ↦ rw passes (elim (cases_Bool (q x)) [
    | inl both ↦ rw both refl
    | inr one ↦ rw one (any_of_passed p q xs)
  ])
  | inr fails ↦ rw fails (any_of_passed p q xs)
]

-- ---- rows among which a family's are the ledger's

module _ (L : Ledger) (rows : List Row) (family : List ℕ) (has : filter (claimed_by family) rows ≡ rows_of L family) where
  pub any_among : (q : Row → Bool) → list_any (λ r. claimed_by family r && q r) rows
      ≡ list_any (λ r. claimed_by family r && q r) L.rows
  any_among q =
      any_of_passed (claimed_by family) q rows ∙ ap (list_any q) has ∙ sym (any_of_passed (claimed_by family) q L.rows)

  pub kept_among : (q : Row → Bool) → filter (λ r. claimed_by family r && q r) rows
      ≡ filter (λ r. claimed_by family r && q r) L.rows
  kept_among q =
      filter_both (claimed_by family) q rows ∙ ap (filter q) has ∙ sym (filter_both (claimed_by family) q L.rows)

pub counted_among : {E Z : Type 0} (L : Ledger) (rows : List Row) (period : Span) (b : BillParts)
    → filter (claimed_by b.family) rows ≡ rows_of L b.family → (found : Result (Vec Row Z) E)
    → IfOk found (λ v. v.items ≡ filter (is_counted period b.family) rows)
    → IfOk found (λ v. v.items ≡ filter (is_counted period b.family) L.rows)
counted_among L rows period b has (Ok v) is = is ∙ kept_among L rows b.family has (counts_in period)
counted_among L rows period b has (Err e) is = tt
