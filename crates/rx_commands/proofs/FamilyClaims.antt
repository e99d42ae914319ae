-- Claims with their sums, one after another.
use Rattle.std.proofs.Common.{◌≡◌, ◌≤◌, ℕ, ◌+◌, ◌++◌, true, List, [], ◌∷◌, map, refl, sym, ap, ◌∙◌, add-zero, append_assoc, inl, inr}
use Rattle.std.specs.Prelude.{if◌then◌else◌}
use Rattle.std.specs.Ordering.{is_eq}
use Rattle.std.proofs.lemmas.Bool.{cases_Bool}
use Rattle.std.proofs.lemmas.Cmp.{tied_itself}
use Rattle.std.proofs.lemmas.List.{append-nil}
use Rattle.std.proofs.lemmas.List.Sums.{sum_by_push}
use Rattle.rx_fields.specs.Numbered.{Span}
use Rattle.rx_sorted.proofs.Keys.{Equal-from_is_eq}
use Rattle.rx_ledger.specs.declared.row.Row.{Row}
use Rattle.rx_ledger.specs.Members.{is_same}
use Rattle.rx_ledger.specs.Sums.{counted, deductible_in, deductible_paid, family_deductible_in, out_of_pocket_in, paid_by_patient}
use Rattle.rx_ledger.specs.Sums.{persons_deductible_paid}
use Rattle.rx_ledger.proofs.CountedRows.{counted-other, counted-own}
use Rattle.rx_ledger.proofs.Orders.{id_exact, id_total}
use Rattle.rx_commands.specs.declared.family.sums.Claim.{Claim}
use Rattle.rx_commands.specs.declared.family.sums.Limits.{Limits}
use Rattle.rx_commands.specs.FamilySums.{claim_after, claim_row, claims_after, claims_of, running_of}

module _ (limits : Limits) (period : Span) where
  after_more : (before rows : List Row) (r : Row)
      → claims_after limits period before (rows ++ r ∷ [])
      ≡ claims_after limits period before rows ++ claim_after limits period (before ++ rows) r ∷ []
  after_more before [] r = ap (λ xs. claim_after limits period xs r ∷ []) (sym (append-nil before))
  after_more before (x ∷ rows) r =
      ap (λ cs. claim_after limits period before x ∷ cs)
      (after_more (before ++ x ∷ []) rows r
      ∙ ap (λ xs. claims_after limits period (before ++ x ∷ []) rows ++ claim_after limits period xs r ∷ [])
      (append_assoc before (x ∷ []) rows))

  pub claims_more : (rows : List Row) (r : Row)
      → claims_of limits period (rows ++ r ∷ []) ≡ claims_of limits period rows ++ claim_after limits period rows r ∷ []
  claims_more rows r = after_more [] rows r

  after_rows : (before rows : List Row) → map claim_row (claims_after limits period before rows) ≡ rows
  after_rows before [] = refl
  after_rows before (x ∷ rows) = ap (λ xs. x ∷ xs) (after_rows (before ++ x ∷ []) rows)

  pub claims_rows : (rows : List Row) → map claim_row (claims_of limits period rows) ≡ rows
  claims_rows rows = after_rows [] rows

-- ---- one more claim

module _ (period : Span) (before : List Row) (r : Row) where
  same_itself : is_same r.person r.person ≡ true
  same_itself = ap is_eq (tied_itself id_total r.person)

  -- the sums with it: of a person, of the family's deductible, of its out of pocket
  person_more : (p : List ℕ) → is_same r.person p ≡ true
      → deductible_in period (before ++ r ∷ []) p ≡ deductible_in period before p + counted period deductible_paid r
  person_more p same =
      sum_by_push (counted period (persons_deductible_paid p)) before r
      ∙ ap (λ n. deductible_in period before p + n) (counted-own period r p same)

  pub family_more : family_deductible_in period (before ++ r ∷ [])
      ≡ family_deductible_in period before + counted period deductible_paid r
  family_more = sum_by_push (counted period deductible_paid) before r

  pub pocket_more : out_of_pocket_in period (before ++ r ∷ []) ≡ out_of_pocket_in period before + counted period paid_by_patient r
  pocket_more = sum_by_push (counted period paid_by_patient) before r

  -- the deductible of each person, where that of the claim's is raised
  pub persons_more : (own cents old : ℕ) → own ≡ deductible_in period before r.person → cents ≡ counted period deductible_paid r
      → (p : List ℕ) → old ≡ deductible_in period before p
      → (if is_same r.person p then own + cents else old) ≡ deductible_in period (before ++ r ∷ []) p
  persons_more own cents old is counts p earlier = elim (cases_Bool (is_same r.person p)) [
    | inl same ↦
        let one : r.person ≡ p = id_exact r.person p (Equal-from_is_eq _ same) in
        rw same (ap (λ n. n + cents) is ∙ ap (λ n. deductible_in period before r.person + n) counts
        ∙ ap (λ q. deductible_in period before q + counted period deductible_paid r) one ∙ sym (person_more p same))
    | inr other ↦
        rw other (earlier ∙ sym (add-zero (deductible_in period before p))
        ∙ ap (λ n. deductible_in period before p + n) (sym (counted-other period r p other))
        ∙ sym (sum_by_push (counted period (persons_deductible_paid p)) before r))
  ]

  pub persons_small : (own cents old most : ℕ) → own + cents ≤ most → old ≤ most → (p : List ℕ)
      → (if is_same r.person p then own + cents else old) ≤ most
  persons_small own cents old most here there p =
      elim (cases_Bool (is_same r.person p)) [ inl same ↦ rw same here | inr other ↦ rw other there ]

  -- the claim with its sums
  module _ (limits : Limits) where
    abbrev made : ℕ → ℕ → ℕ → ℕ → ℕ → ℕ → Claim
    made own more family family_new pocket pocket_new =
        record {
          row = r;
          deductible = running_of limits.deductible own more;
          family_deductible = running_of limits.family_deductible family family_new;
          out_of_pocket = running_of limits.out_of_pocket pocket pocket_new;
        }

    pub claim_built : (own cents paid family pocket : ℕ) → own ≡ deductible_in period before r.person
        → cents ≡ counted period deductible_paid r → paid ≡ counted period paid_by_patient r
        → family ≡ family_deductible_in period before → pocket ≡ out_of_pocket_in period before
        → made own (own + cents) family (family + cents) pocket (pocket + paid) ≡ claim_after limits period before r
    claim_built own cents paid family pocket is counts pays theirs out =
        let own_before = deductible_in period before r.person in
        let family_before = family_deductible_in period before in
        let pocket_before = out_of_pocket_in period before in
        let adds = counted period deductible_paid r in
        let costs = counted period paid_by_patient r in
        let own_after = deductible_in period (before ++ r ∷ []) r.person in
        let family_after = family_deductible_in period (before ++ r ∷ []) in
        ap (λ n. made n (n + cents) family (family + cents) pocket (pocket + paid)) is
        ∙ ap (λ n. made own_before (own_before + n) family (family + n) pocket (pocket + paid)) counts
        ∙ ap (λ n. made own_before (own_before + adds) family (family + adds) pocket (pocket + n)) pays
        ∙ ap (λ n. made own_before (own_before + adds) n (n + adds) pocket (pocket + costs)) theirs
        ∙ ap (λ n. made own_before (own_before + adds) family_before (family_before + adds) n (n + costs)) out
        ∙ ap (λ n. made own_before n family_before (family_before + adds) pocket_before (pocket_before + costs))
        (sym (person_more r.person same_itself))
        ∙ ap (λ n. made own_before own_after family_before n pocket_before (pocket_before + costs)) (sym family_more)
        ∙ ap (λ n. made own_before own_after family_before family_after pocket_before n) (sym pocket_more)
