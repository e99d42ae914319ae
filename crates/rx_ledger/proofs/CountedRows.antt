-- What a row counts in a period: toward its own person's deductible and toward another's, and never more than the limit of a claim.
use Rattle.std.proofs.Common.{◌≡◌, ℕ, ◌≤◌, List, [], true, false, inl, inr, arith}
use Rattle.std.proofs.lemmas.Bool.{cases_Bool}
use Rattle.rx_fields.specs.Calendar.{Civil}
use Rattle.rx_fields.specs.Numbered.{Span, is_within}
use Rattle.rx_ledger.specs.declared.member.Member.{Member}
use Rattle.rx_ledger.specs.declared.row.Row.{Row}
use Rattle.rx_ledger.specs.Members.{is_same}
use Rattle.rx_ledger.specs.Sums.{counted, deductible_paid, paid_by_patient, persons_deductible_paid}

-- a member that no list need have, where a read past the end is spoken of
abbrev no_day : Civil
no_day = record { year = 0; month = 0; day = 0 }

abbrev pub no_member : Member
no_member =
    record { key = record { family = []; person = [] }; coverage = record { first = no_day; last = no_day } }

module _ (period : Span) (r : Row) where
  -- toward its own person's deductible, and toward another's
  pub counted-own : (person : List ℕ) → is_same r.person person ≡ true
      → counted period (persons_deductible_paid person) r ≡ counted period deductible_paid r
  counted-own person same = rw same

  pub counted-other : (person : List ℕ) → is_same r.person person ≡ false
      → counted period (persons_deductible_paid person) r ≡ 0
  counted-other person other = rw other
      (elim (cases_Bool (is_within period r.key.date)) [ inl t ↦ rw t | inr f ↦ rw f ])

  pub counted-small : paid_by_patient r ≤ 99_999_999 → counted period paid_by_patient r ≤ 99_999_999
  counted-small small = elim (cases_Bool (is_within period r.key.date)) [ inl t ↦ rw t small | inr f ↦ rw f (omega arith) ]

  pub counted_deductible-small : paid_by_patient r ≤ 99_999_999 → counted period deductible_paid r ≤ 99_999_999
  counted_deductible-small small = elim (cases_Bool (is_within period r.key.date))
      [ inl t ↦ rw t (omega (arith, small)) | inr f ↦ rw f (omega arith) ]

  pub counted_person-small : (person : List ℕ) → paid_by_patient r ≤ 99_999_999
      → counted period (persons_deductible_paid person) r ≤ 99_999_999
  counted_person-small person small = elim (cases_Bool (is_same r.person person)) [
    | inl same ↦ rw same (counted_deductible-small small)
    | inr other ↦ rw (counted-other person other) (omega arith)
  ]
