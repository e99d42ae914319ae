-- Who isn't listed has no claim, so that nothing counts.
use Rattle.std.proofs.Common.{◌≡◌, ℕ, List, [], ◌∷◌, Bool, true, false, refl, sym, ap, ◌∙◌, inl, inr, arith}
use Rattle.std.specs.Prelude.{sum_by}
use Rattle.std.specs.List.{All, filter}
use Rattle.std.proofs.lemmas.Bool.{both_ways, cases_Bool}
use Rattle.std.proofs.lemmas.List.Elements.{All-head, All-tail, All-weaker}
use Rattle.std.proofs.lemmas.List.Sums.{AllPass-from_list_all, sum_by-cons}
use Rattle.rx_fields.specs.Numbered.{Span, is_within}
use Rattle.rx_sorted.proofs.Keys.{Equal-from_is_eq}
use Rattle.rx_ledger.specs.declared.member.MemberKey.{MemberKey}
use Rattle.rx_ledger.specs.declared.row.Row.{Row}
use Rattle.rx_ledger.specs.Ledger.{IsLedger, Ledger, is_listed, rows_of}
use Rattle.rx_ledger.specs.Members.{is_same}
use Rattle.rx_ledger.specs.Rows.{claimed_by, member_of_row}
use Rattle.rx_ledger.specs.Sums.{counted, deductible, persons_deductible_paid}
use Rattle.rx_ledger.proofs.Orders.{id_exact}
use Rattle.rx_books_store.specs.LedgerBooks.{has_members}
use Rattle.rx_books_store.proofs.Split.{listed-has_members}

-- what counts nothing of each claim that passes counts nothing of all
nothing : (figure : Row → ℕ) (q : Row → Bool) (rows : List Row) → All (λ r. q r ≡ true → figure r ≡ 0) rows
    → sum_by figure (filter q rows) ≡ 0
nothing figure q [] all = refl
nothing figure q (r ∷ rows) all =
    let P : Row → Type 0 = λ s. q s ≡ true → figure s ≡ 0 in
    let rest : sum_by figure (filter q rows) ≡ 0 = nothing figure q rows (All-tail P r rows all) in
    elim (cases_Bool (q r)) [
      | inl t ↦
          let here : figure r ≡ 0 = All-head P r rows all t in
          rw t (omega (arith, sum_by-cons figure r (filter q rows), here, rest))
      | inr f ↦ rw f rest
    ]

module _ (L : Ledger) (is : IsLedger L) where
  all_listed : All (λ r. is_listed L (member_of_row r) ≡ true) L.rows
  all_listed = AllPass-from_list_all (λ r. is_listed L (member_of_row r)) L.rows is.whole

  -- a person who isn't listed
  pub no_deductible : (k : MemberKey) (p : Span) → is_listed L k ≡ false → deductible p L k.family k.person ≡ 0
  no_deductible k p none = nothing figure (claimed_by k.family) L.rows
      (All-weaker (λ r. is_listed L (member_of_row r) ≡ true) (λ r. claimed_by k.family r ≡ true → figure r ≡ 0) each L.rows all_listed)
    where
      figure : Row → ℕ
      figure = counted p (persons_deductible_paid k.person)

      each : (r : Row) → is_listed L (member_of_row r) ≡ true → claimed_by k.family r ≡ true → figure r ≡ 0
      each r listed theirs = elim (cases_Bool (is_within p r.key.date)) [
        | inl within ↦ elim (cases_Bool (is_same r.person k.person)) [
          | inl same ↦
              let family : r.family ≡ k.family = id_exact r.family k.family (Equal-from_is_eq _ theirs) in
              let person : r.person ≡ k.person = id_exact r.person k.person (Equal-from_is_eq _ same) in
              let key : member_of_row r ≡ k = λ i. record { family = family i; person = person i } in
              absurd (both_ways _ none (ap (is_listed L) (sym key) ∙ listed))
          | inr other ↦ rw (within, other) refl
        ]
        | inr outside ↦ rw outside refl
      ]

  -- a family that has no member
  pub no_figure : (family : List ℕ) (figure : Row → ℕ) → has_members L family ≡ false → sum_by figure (rows_of L family) ≡ 0
  no_figure family figure none = nothing figure (claimed_by family) L.rows
      (All-weaker (λ r. is_listed L (member_of_row r) ≡ true) (λ r. claimed_by family r ≡ true → figure r ≡ 0) each L.rows all_listed)
    where
      each : (r : Row) → is_listed L (member_of_row r) ≡ true → claimed_by family r ≡ true → figure r ≡ 0
      each r listed theirs =
          let same : r.family ≡ family = id_exact r.family family (Equal-from_is_eq _ theirs) in
          let has : has_members L r.family ≡ true = listed-has_members L (member_of_row r) listed in
          absurd (both_ways _ none (ap (has_members L) (sym same) ∙ has))
