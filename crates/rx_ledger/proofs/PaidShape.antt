-- What a paid answer shows: no row of the table above it held, so its member is listed, its fill key was free, and its amounts
-- are those that the plan gives.
use Rattle.std.proofs.Common.{◌≡◌, ℕ, Bool, true, false, Option, Some, None, IsSome, refl, ap, sym, ◌∙◌}
use Rattle.std.specs.Prelude.{◌||◌, if◌then◌else◌, is_some, nat_lt, not}
use Rattle.std.specs.List.{list_any}
use Rattle.std.specs.Ordering.{is_gt, is_lt}
use Rattle.std.proofs.lemmas.Bool.{false≢true}
use Rattle.rx_fields.specs.Calendar.{day_cmp}
use Rattle.rx_fields.specs.Numbered.{is_within}
use Rattle.rx_d0_values.specs.declared.bill.BillParts.{BillParts}
use Rattle.rx_d0_values.specs.declared.reply.Answer.TheVariants.{Paid}
use Rattle.rx_d0_values.specs.declared.reply.Paid.{Paid as PaidParts}
use Rattle.rx_d0_values.specs.declared.transaction.Transaction.TheVariants.{Bill}
use Rattle.rx_ledger.specs.declared.decision.Decision.{Decision}
use Rattle.rx_ledger.specs.declared.decision.Decision.TheVariants as decision
use Rattle.rx_ledger.specs.declared.decision.Payment.{Payment}
use Rattle.rx_ledger.specs.declared.drug.Drug.{Drug}
use Rattle.rx_ledger.specs.declared.row.Row.{Row}
use Rattle.rx_ledger.specs.Answers.{answer, answer_by}
use Rattle.rx_ledger.specs.Decisions.{Asked, billing, if_found, is_same_claim, is_too_soon, key_of, payment, priced, unless_found}
use Rattle.rx_ledger.specs.Ledger.{Ledger, members_of, row_under, rows_of}
use Rattle.rx_ledger.specs.Members.{of_family, person_in}
use Rattle.rx_ledger.specs.Plan.{drug_of}

-- ---- the decision to pay

-- a billing is of a person among the family's members, no row stood under its key, and it is paid by a listed drug
pub record IsPayable (a : Asked) (L : Ledger) (b : BillParts) (p : Payment) : Type 0 where
  pub person : IsSome (person_in (members_of L b.family) b.person)
  pub free : row_under L (key_of a b.reference) ≡ None
  pub drug : Drug
  pub listed : drug_of a.plan b.product ≡ Some drug
  pub is : p ≡ payment a.plan.figures drug b (rows_of L b.family)

-- a row that pays
abbrev pays : Decision → Bool
pays (decision.Payable p) = true
pays _ = false

module _ (p : Payment) where
  not_both : (d : Decision) → d ≡ decision.Payable p → pays d ≡ false → ⊥
  not_both d is other = false≢true (sym other ∙ ap pays is)

  -- a row above doesn't hold, so one below it decides
  below : (holds : Bool) (row rest : Decision) → (if holds then row else rest) ≡ decision.Payable p → pays row ≡ false
      → rest ≡ decision.Payable p
  below true row rest is other = absurd (not_both row is other)
  below false row rest is other = is

  below_found : {A : Type 0} (o : Option A) (row : Decision) (rest : A → Decision) → unless_found o row rest ≡ decision.Payable p
      → pays row ≡ false → (x : A) × ((o ≡ Some x) × (rest x ≡ decision.Payable p))
  below_found None row rest is other = absurd (not_both row is other)
  below_found (Some x) row rest is other = (x, (refl, is))

  below_none : {A : Type 0} (o : Option A) (row : A → Decision) (rest : Decision) → if_found o row rest ≡ decision.Payable p
      → ((x : A) → pays (row x) ≡ false) → (o ≡ None) × (rest ≡ decision.Payable p)
  below_none None row rest is other = (refl, is)
  below_none (Some x) row rest is other = absurd (not_both (row x) is (other x))

not_standing : (same : Bool) (r : Row) → pays (if same then decision.SameStands r else decision.OtherStands r) ≡ false
not_standing true r = refl
not_standing false r = refl

pub payable : (a : Asked) (L : Ledger) (b : BillParts) (p : Payment) → billing a L b ≡ decision.Payable p → IsPayable a L b p
payable a L b p is =
    let family = below p (not (list_any (of_family b.family) L.members)) decision.NoFamily _ is refl in
    let person = below_found p (person_in (members_of L b.family) b.person) decision.NoPerson _ family refl in
    let free = below_none p (row_under L (key_of a b.reference)) _ _ person.1.1 (λ r. not_standing (is_same_claim b r) r) in
    let started = below p (is_lt (day_cmp a.date a.plan.figures.period.first)) decision.BeforePeriod _ free.1 refl in
    let created = below p (is_gt (day_cmp a.date a.lot.created)) decision.AfterCreation _ started refl in
    let outside : Bool = not (is_within person.0.coverage a.date) || is_gt (day_cmp a.date a.plan.figures.period.last) in
    let covered = below p outside (decision.NotCovered person.0) _ created refl in
    let listed = below_found p (drug_of a.plan b.product) decision.NotListed _ covered refl in
    let few = below p (nat_lt a.plan.figures.max_days b.days) decision.TooManyDays _ listed.1.1 refl in
    let soon : Bool = list_any (is_too_soon a.plan.figures a.date b) (rows_of L b.family) in
    let paid = below p soon decision.TooSoon (decision.Payable (payment a.plan.figures listed.0 b (rows_of L b.family))) few refl in
    record { person = ap is_some person.1.0; free = free.0; drug = listed.0; listed = listed.1.0; is = cc }

-- ---- the answer

-- only that decision is answered so, with its amounts
record IsPaidBy (d : Decision) (p : PaidParts) : Type 0 where
  payment : Payment
  is : d ≡ decision.Payable payment
  amounts : p.pricing ≡ payment.pricing

module _ (number reference : ℕ) (p : PaidParts) where
  paid_by : (d : Decision) → answer_by number reference d ≡ Paid p → IsPaidBy d p
  paid_by (decision.Payable payment) paid = record { payment = payment; is = refl; amounts = sym (cc) }
  paid_by decision.NoFamily paid = cc
  paid_by decision.NoPerson paid = cc
  paid_by (decision.SameStands r) paid = cc
  paid_by (decision.OtherStands r) paid = cc
  paid_by decision.BeforePeriod paid = cc
  paid_by decision.AfterCreation paid = cc
  paid_by (decision.NotCovered m) paid = cc
  paid_by decision.NotListed paid = cc
  paid_by decision.TooManyDays paid = cc
  paid_by decision.TooSoon paid = cc
  paid_by decision.NoneStands paid = cc
  paid_by (decision.OtherProduct r) paid = cc
  paid_by (decision.TakenBack r) paid = cc
  paid_by (decision.Unread f) paid = cc

-- the same of a billing that a ledger answers as paid
pub record IsPaidNew (a : Asked) (L : Ledger) (b : BillParts) (p : PaidParts) : Type 0 where
  pub person : IsSome (person_in (members_of L b.family) b.person)
  pub free : row_under L (key_of a b.reference) ≡ None
  pub drug : Drug
  pub amounts : p.pricing ≡ priced a.plan.figures drug b (rows_of L b.family)

pub paid_new : (a : Asked) (L : Ledger) (b : BillParts) (p : PaidParts) → answer a L (Bill b) ≡ Paid p
    → IsPaidNew a L b p
paid_new a L b p paid =
    let by = paid_by a.number b.reference p (billing a L b) paid in
    let passed = payable a L b by.payment by.is in
    record {
      person = passed.person;
      free = passed.free;
      drug = passed.drug;
      amounts = by.amounts ∙ ap (λ (q : Payment). q.pricing) passed.is;
    }
