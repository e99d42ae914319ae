-- The reply at a place of the fold, the answer at a place of a record, and sums of the rows that are counted.
use Rattle.std.specs.Prelude.{slice_get}
use Rattle.std.proofs.Common.{◌≡◌, ℕ, zero, suc, ◌+◌, List, [], ◌∷◌, Some, None}
use Rattle.std.proofs.Common.{take, refl, sym, ap, ◌∙◌, inl, inr, add-zero, arith}
use Rattle.std.specs.List.{filter, fold, sum_by}
use Rattle.std.proofs.lemmas.Bool.{cases_Bool}
use Rattle.rx_d0_values.specs.declared.transaction.Transaction.{Transaction}
use Rattle.rx_d0_values.specs.declared.transmission.Heard.{Heard as HeardRecord}
use Rattle.rx_d0_values.specs.declared.transmission.Transmission.{Transmission}
use Rattle.rx_fields.specs.Numbered.{LotParts, Span}
use Rattle.rx_ledger.specs.declared.row.Row.{Row}
use Rattle.rx_ledger.specs.Answers.{after, answer}
use Rattle.rx_ledger.specs.Fold.{answers_from, asked, fold_ledger, fold_replies, ledger_after, ledger_from, reply_to}
use Rattle.rx_ledger.specs.Ledger.{Ledger, rows_of}
use Rattle.rx_ledger.specs.Members.{is_same}
use Rattle.rx_ledger.specs.Plan.{Plan}
use Rattle.rx_ledger.specs.Rows.{claimed_by}
use Rattle.rx_ledger.specs.Sums.{counted, deductible_paid, persons_deductible_paid}
use Rattle.rx_explain.specs.Shown.{counted_rows, counts_in}
use Rattle.rx_explain.proofs.Counted.{filter_both}

one_more : (place before : ℕ) → place + 1 + before ≡ place + suc before
one_more place before = omega arith

no_more : (place : ℕ) → place + 0 ≡ place
no_more place = omega arith

module _ (lot : LotParts) (plan : Plan) where
  pub reply_at : (ts : List Transmission) (place : ℕ) (L : Ledger) (before : ℕ) (t : Transmission)
      → slice_get ts before ≡ Some t
      → slice_get (fold_replies lot plan place ts L) before
      ≡ Some (reply_to lot plan (place + before) t (fold_ledger lot plan place (take before ts) L))
  reply_at [] place L before t is = absurd (let e : None ≡ Some t = is in cc)
  reply_at (x ∷ ts) place L zero t is =
      let same : x ≡ t = cc in
      ap (λ u. Some (reply_to lot plan place u L)) same
      ∙ ap (λ n. Some (reply_to lot plan n t L)) (sym (no_more place))
  reply_at (x ∷ ts) place L (suc before) t is =
      reply_at ts (place + 1) (ledger_after lot plan place x L) before t is
      ∙ ap
      (λ n. Some (reply_to lot plan n t (fold_ledger lot plan (place + 1) (take before ts) (ledger_after lot plan place x L))))
      (one_more place before)

  pub answer_at : (place : ℕ) (h : HeardRecord) (ts : List Transaction) (nth : ℕ) (L : Ledger) (before : ℕ) (t : Transaction)
      → slice_get ts before ≡ Some t
      → slice_get (answers_from lot plan place h nth ts L) before
      ≡ Some (answer (asked lot plan place h (nth + before)) (ledger_from lot plan place h nth (take before ts) L) t)
  answer_at place h [] nth L before t is = absurd (let e : None ≡ Some t = is in cc)
  answer_at place h (x ∷ ts) nth L zero t is =
      let same : x ≡ t = cc in
      ap (λ u. Some (answer (asked lot plan place h nth) L u)) same
      ∙ ap (λ n. Some (answer (asked lot plan place h n) L t)) (sym (no_more nth))
  answer_at place h (x ∷ ts) nth L (suc before) t is =
      let next = after (asked lot plan place h nth) L x (answer (asked lot plan place h nth) L x) in
      answer_at place h ts (nth + 1) next before t is
      ∙ ap
      (λ n. Some (answer (asked lot plan place h n) (ledger_from lot plan place h (nth + 1) (take before ts) next) t))
      (one_more nth before)

-- ---- sums

module _ (period : Span) where
  counted_fold : (figure : Row → ℕ) (rows : List Row) (a : ℕ)
      → fold (λ s r. s + counted period figure r) a rows ≡ fold (λ s r. s + figure r) a (filter (counts_in period) rows)
  counted_fold figure [] a = refl
  counted_fold figure (r ∷ rows) a = elim (cases_Bool (counts_in period r)) [
    | inl within ↦ rw within (counted_fold figure rows (a + figure r))
    | inr outside ↦ rw (outside, add-zero) (counted_fold figure rows a)
  ]

  sum_of_counted : (figure : Row → ℕ) (rows : List Row)
      → sum_by (counted period figure) rows ≡ sum_by figure (filter (counts_in period) rows)
  sum_of_counted figure rows = counted_fold figure rows 0

person_fold : (person : List ℕ) (rows : List Row) (a : ℕ)
    → fold (λ s r. s + persons_deductible_paid person r) a rows
    ≡ fold (λ s r. s + deductible_paid r) a (filter (λ r. is_same r.person person) rows)
person_fold person [] a = refl
person_fold person (r ∷ rows) a = elim (cases_Bool (is_same r.person person)) [
  | inl same ↦ rw same (person_fold person rows (a + deductible_paid r))
  | inr other ↦ rw (other, add-zero) (person_fold person rows a)
]

sum_of_person : (person : List ℕ) (rows : List Row)
    → sum_by (persons_deductible_paid person) rows ≡ sum_by deductible_paid (filter (λ r. is_same r.person person) rows)
sum_of_person person rows = person_fold person rows 0

-- those of the family's rows that are shown
module _ (period : Span) (L : Ledger) (family : List ℕ) where
  only_counted : filter (counts_in period) (rows_of L family) ≡ counted_rows period L family
  only_counted = sym (filter_both (claimed_by family) (counts_in period) L.rows)

  pub sum_of_shown : (figure : Row → ℕ) → sum_by (counted period figure) (rows_of L family)
      ≡ sum_by figure (counted_rows period L family)
  sum_of_shown figure = sum_of_counted period figure (rows_of L family) ∙ ap (sum_by figure) only_counted

  pub sum_of_shown_person : (person : List ℕ) → sum_by (counted period (persons_deductible_paid person)) (rows_of L family)
      ≡ sum_by deductible_paid (filter (λ r. is_same r.person person) (counted_rows period L family))
  sum_of_shown_person person =
      sum_of_counted period (persons_deductible_paid person) (rows_of L family)
      ∙ sum_of_person person (filter (counts_in period) (rows_of L family))
      ∙ ap (λ (rows : List Row). sum_by deductible_paid (filter (λ r. is_same r.person person) rows)) only_counted
