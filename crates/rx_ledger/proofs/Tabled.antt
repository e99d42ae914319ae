-- Which decisions the tables give: a billing's takes nothing back, a reversal's pays nothing, and both are of what could be read.
use Rattle.std.proofs.Common.{Bool, true, false, Option, Some, None}
use Rattle.std.specs.Prelude.{◌||◌, ◌==◌, if◌then◌else◌, nat_lt, not}
use Rattle.std.specs.List.{list_any}
use Rattle.std.specs.Ordering.{is_gt, is_lt}
use Rattle.rx_fields.specs.Calendar.{day_cmp}
use Rattle.rx_fields.specs.Numbered.{is_within}
use Rattle.rx_d0_values.specs.declared.bill.BillParts.{BillParts}
use Rattle.rx_d0_values.specs.declared.transaction.Reversal.{Reversal}
use Rattle.rx_ledger.specs.declared.decision.Decision.{Decision}
use Rattle.rx_ledger.specs.declared.decision.Decision.TheVariants as decision
use Rattle.rx_ledger.specs.Decisions.{Asked, billing, if_found, is_same_claim, is_too_soon, key_of, reversal, unless_found}
use Rattle.rx_ledger.specs.Ledger.{Ledger, members_of, row_under, rows_of}
use Rattle.rx_ledger.specs.Members.{of_family, person_in}
use Rattle.rx_ledger.specs.Plan.{drug_of}

abbrev pub IsOfBilling : Decision → Type 0
IsOfBilling (decision.TakenBack r) = ⊥
IsOfBilling (decision.Unread f) = ⊥
IsOfBilling other = Unit {0}

abbrev pub IsOfReversal : Decision → Type 0
IsOfReversal (decision.SameStands r) = ⊥
IsOfReversal (decision.Payable p) = ⊥
IsOfReversal (decision.Unread f) = ⊥
IsOfReversal other = Unit {0}

-- ---- what holds of each row of a table holds of the one that decides

module _ (P : Decision → Type 0) where
  either : (holds : Bool) (row rest : Decision) → P row → P rest → P (if holds then row else rest)
  either true row rest is other = is
  either false row rest is other = other

  unless : {A : Type 0} (o : Option A) (row : Decision) (rest : A → Decision) → P row → ((x : A) → P (rest x))
      → P (unless_found o row rest)
  unless None row rest is other = is
  unless (Some x) row rest is other = other x

  found : {A : Type 0} (o : Option A) (row : A → Decision) (rest : Decision) → ((x : A) → P (row x)) → P rest
      → P (if_found o row rest)
  found None row rest is other = other
  found (Some x) row rest is other = is x

pub of-billing : (a : Asked) (L : Ledger) (b : BillParts) → IsOfBilling (billing a L b)
of-billing a L b =
    either IsOfBilling (not (list_any (of_family b.family) L.members)) _ _ tt
    (unless IsOfBilling (person_in (members_of L b.family) b.person) _ _ tt (λ m.
    found IsOfBilling (row_under L (key_of a b.reference)) _ _
    (λ r. either IsOfBilling (is_same_claim b r) (decision.SameStands r) (decision.OtherStands r) tt tt)
    (either IsOfBilling (is_lt (day_cmp a.date a.plan.figures.period.first)) _ _ tt
    (either IsOfBilling (is_gt (day_cmp a.date a.lot.created)) _ _ tt
    (either IsOfBilling (not (is_within m.coverage a.date) || is_gt (day_cmp a.date a.plan.figures.period.last)) _ _ tt
    (unless IsOfBilling (drug_of a.plan b.product) _ _ tt (λ d.
    either IsOfBilling (nat_lt a.plan.figures.max_days b.days) _ _ tt
    (either IsOfBilling (list_any (is_too_soon a.plan.figures a.date b) (rows_of L b.family)) _ _ tt tt))))))))

pub of-reversal : (a : Asked) (L : Ledger) (v : Reversal) → IsOfReversal (reversal a L v)
of-reversal a L v =
    unless IsOfReversal (row_under L (key_of a v.reference)) _ _ tt (λ r.
    either IsOfReversal (r.product == v.product) (decision.TakenBack r) (decision.OtherProduct r) tt tt)
