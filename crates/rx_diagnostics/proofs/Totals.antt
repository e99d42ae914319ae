-- The sums over a family's claims, claim by claim.
use Rattle.std.proofs.Common.{◌≡◌, ℕ, ◌+◌, false, List, [], ◌∷◌, refl, sym, ap, ◌∙◌, inl, inr, zero-add}
use Rattle.std.specs.List.{filter}
use Rattle.std.specs.Prelude.{sum_by}
use Rattle.std.proofs.lemmas.Bool.{cases_Bool}
use Rattle.std.proofs.lemmas.List.Sums.{sum_by-cons}
use Rattle.rx_fields.specs.Numbered.{Span, is_within}
use Rattle.rx_ledger.specs.Members.{is_same}
use Rattle.rx_ledger.specs.Rows.{claimed_by}
use Rattle.rx_ledger.specs.Sums.{counted, persons_deductible_paid}
use Rattle.rx_ledger.specs.declared.row.Row.{Row}
use Rattle.rx_diagnostics.specs.BooksTotals.{of_family}

pub summed : (family : List ℕ) (figure : Row → ℕ) (rows : List Row)
    → sum_by (of_family family figure) rows ≡ sum_by figure (filter (claimed_by family) rows)
summed family figure [] = refl
summed family figure (r ∷ rows) =
    let part = of_family family figure in
    let more = summed family figure rows in
    elim (cases_Bool (claimed_by family r)) [
      | inl own ↦
          let counts : part r ≡ figure r = rw own refl in
          let kept : filter (claimed_by family) (r ∷ rows) ≡ r ∷ filter (claimed_by family) rows = rw own refl in
          sum_by-cons part r rows ∙ ap (λ n. n + sum_by part rows) counts ∙ ap (λ n. figure r + n) more
          ∙ sym (sum_by-cons figure r (filter (claimed_by family) rows)) ∙ ap (sum_by figure) (sym kept)
      | inr other ↦
          let counts : part r ≡ 0 = rw other refl in
          let left : filter (claimed_by family) (r ∷ rows) ≡ filter (claimed_by family) rows = rw other refl in
          sum_by-cons part r rows ∙ ap (λ n. n + sum_by part rows) counts ∙ zero-add (sum_by part rows) ∙ more
          ∙ ap (sum_by figure) (sym left)
    ]

-- another person's claim counts nothing
pub counts_nothing : (family person : List ℕ) (period : Span) (r : Row) → is_same r.person person ≡ false
    → of_family family (counted period (persons_deductible_paid person)) r ≡ 0
counts_nothing family person period r another = elim (cases_Bool (claimed_by family r)) [
  | inl own ↦ elim (cases_Bool (is_within period r.key.date)) [
    | inl within ↦ rw (own, within, another) refl
    | inr apart ↦ rw (own, apart) refl
  ]
  | inr other ↦ rw other refl
]
