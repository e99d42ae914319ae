-- Meaning: the decision on one transaction: the first row of the tables of adjudication that holds, with what it needs.
use Rattle.std.specs.Prelude.{ℕ, ◌*◌, Bool, not, ◌&&◌, ◌||◌, nat_lt, ◌==◌, if◌then◌else◌, List, Option, Some, None}
use Rattle.std.specs.Prelude.{◌-ℤ◌, ◌*ℤ◌, pos, int_lt}
use Rattle.std.specs.List.{list_any}
use Rattle.std.specs.Ordering.{is_lt, is_gt, is_le}
use Rattle.rx_fields.specs.Calendar.{Civil, day_cmp, day_number}
use Rattle.rx_fields.specs.Numbered.{LotParts, is_within}
use Rattle.rx_fields.specs.declared.key.Key.{Key}
use Rattle.rx_d0_values.specs.declared.bill.BillParts.{BillParts}
use Rattle.rx_d0_values.specs.declared.pricing.Amounts.{Amounts}
use Rattle.rx_d0_values.specs.declared.transaction.Reversal.{Reversal}
use Rattle.rx_d0_values.specs.declared.transaction.Transaction.{Transaction}
use Rattle.rx_d0_values.specs.declared.transaction.Transaction.TheVariants.{Bill, Reverse, Faulty}
use Rattle.rx_ledger.specs.declared.decision.Decision.{Decision}
use Rattle.rx_ledger.specs.declared.decision.Decision.TheVariants.{NoFamily, NoPerson, SameStands, OtherStands, BeforePeriod, AfterCreation}
use Rattle.rx_ledger.specs.declared.decision.Decision.TheVariants.{NotCovered, NotListed, TooManyDays, TooSoon, Payable}
use Rattle.rx_ledger.specs.declared.decision.Decision.TheVariants.{NoneStands, OtherProduct, TakenBack, Unread}
use Rattle.rx_ledger.specs.declared.decision.Payment.{Payment}
use Rattle.rx_ledger.specs.declared.drug.Drug.{Drug}
use Rattle.rx_ledger.specs.declared.figures.Figures.{Figures}
use Rattle.rx_ledger.specs.declared.row.Row.{Row}
use Rattle.rx_ledger.specs.declared.share.Used.{Used}
use Rattle.rx_ledger.specs.Ledger.{Ledger, members_of, row_under, rows_of}
use Rattle.rx_ledger.specs.Members.{is_same, of_family, person_in}
use Rattle.rx_ledger.specs.Plan.{Plan, drug_of}
use Rattle.rx_ledger.specs.Price.{allowance}
use Rattle.rx_ledger.specs.Share.{shared}
use Rattle.rx_ledger.specs.Sums.{deductible_in, out_of_pocket_in, family_deductible_in}

-- what a transaction is asked under: its lot and plan, its provider and date of service, and its authorization number
pub record Asked : Type 0 where
  pub lot : LotParts
  pub plan : Plan
  pub provider : List ℕ
  pub date : Civil
  pub number : ℕ

-- the fill key of a prescription reference number
abbrev pub key_of : Asked → ℕ → Key
key_of a reference = record { provider = a.provider; reference = reference; date = a.date }

-- ---- the words of the tables

-- the row is of the same family, person, product, quantity and days
abbrev pub is_same_claim : BillParts → Row → Bool
is_same_claim b r =
    is_same r.family b.family && is_same r.person b.person && (r.product == b.product)
    && (r.quantity == b.quantity) && (r.days == b.days)

-- a fill of the person's with the product, dated no later, isn't used up to the percentage: too few of its days are over
abbrev pub is_too_soon : Figures → Civil → BillParts → Row → Bool
is_too_soon f date b r =
    is_same r.person b.person && (r.product == b.product) && is_le (day_cmp r.key.date date)
    && int_lt ((day_number date -ℤ day_number r.key.date) *ℤ pos 100) (pos (r.days * f.refill_percent))

-- what the family's rows have used of the plan's figures
abbrev pub used_by : Figures → List ℕ → List Row → Used
used_by f person rows =
    record {
      deductible = deductible_in f.period rows person;
      out_of_pocket = out_of_pocket_in f.period rows;
      family_deductible = family_deductible_in f.period rows;
    }

-- the amounts of a billing that is paid
abbrev pub priced : Figures → Drug → BillParts → List Row → Amounts
priced f drug b rows = shared f drug.share (used_by f b.person rows) (allowance drug.price f.fee b)

-- what it is paid by
abbrev pub payment : Figures → Drug → BillParts → List Row → Payment
payment f drug b rows = record { drug = drug; used = used_by f b.person rows; pricing = priced f drug b rows }

-- ---- billing

-- the row of a table that holds if there is none; else the rows below it, about what there is
abbrev pub unless_found : {A : Type 0} → Option A → Decision → (A → Decision) → Decision
unless_found None row below = row
unless_found (Some x) row below = below x

-- the row that holds if there is one, about it; else the rows below it
abbrev pub if_found : {A : Type 0} → Option A → (A → Decision) → Decision → Decision
if_found None row below = below
if_found (Some x) row below = row x

-- the first row that holds
abbrev pub billing : Asked → Ledger → BillParts → Decision
billing a L b =
    if not (list_any (of_family b.family) L.members) then NoFamily
    else (unless_found (person_in (members_of L b.family) b.person) NoPerson (λ m.
    if_found (row_under L (key_of a b.reference)) (λ r. if is_same_claim b r then SameStands r else OtherStands r)
    (if is_lt (day_cmp a.date a.plan.figures.period.first) then BeforePeriod
    else (if is_gt (day_cmp a.date a.lot.created) then AfterCreation
    else (if not (is_within m.coverage a.date) || is_gt (day_cmp a.date a.plan.figures.period.last) then NotCovered m
    else (unless_found (drug_of a.plan b.product) NotListed (λ drug.
    if nat_lt a.plan.figures.max_days b.days then TooManyDays
    else (if list_any (is_too_soon a.plan.figures a.date b) (rows_of L b.family) then TooSoon
    else Payable (payment a.plan.figures drug b (rows_of L b.family))))))))))

-- ---- reversal

abbrev pub reversal : Asked → Ledger → Reversal → Decision
reversal a L v =
    unless_found (row_under L (key_of a v.reference)) NoneStands (λ r.
    if r.product == v.product then TakenBack r else OtherProduct r)

-- ---- transaction

abbrev pub decision_of : Asked → Ledger → Transaction → Decision
decision_of a L (Bill b) = billing a L b
decision_of a L (Reverse v) = reversal a L v
decision_of a L (Faulty f) = Unread f

-- ---- what decided

-- the standing claim that a decision names
abbrev pub row_of : Decision → Option Row
row_of (SameStands r) = Some r
row_of (OtherStands r) = Some r
row_of (OtherProduct r) = Some r
row_of (TakenBack r) = Some r
row_of other = None
