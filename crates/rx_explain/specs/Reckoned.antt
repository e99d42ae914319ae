-- Meaning: how the amounts of a paid claim follow from what its explanation shows, in the words of the rules.
use Rattle.std.specs.Prelude.{◌≡◌, ℕ, ◌+◌, ◌-◌, ◌*◌, ◌/◌, min, unwrap_or, List, [], Option, Some, None, filter, map, sum_by}
use Rattle.std.specs.Option.{option_map}
use Rattle.rx_d0_values.specs.Priced.{allowed, patient_pay, total_paid}
use Rattle.rx_d0_values.specs.declared.bill.BillParts.{BillParts}
use Rattle.rx_d0_values.specs.declared.pricing.Amounts.{Amounts}
use Rattle.rx_d0_values.specs.declared.reply.Answer.{Answer}
use Rattle.rx_d0_values.specs.declared.reply.Answer.TheVariants.{Paid}
use Rattle.rx_d0_values.specs.declared.transaction.Transaction.{Transaction}
use Rattle.rx_d0_values.specs.declared.transaction.Transaction.TheVariants.{Bill}
use Rattle.rx_ledger.specs.declared.drug.Share.{Share}
use Rattle.rx_ledger.specs.declared.drug.Share.TheVariants.{Copay, Percent}
use Rattle.rx_ledger.specs.declared.row.Row.{Row}
use Rattle.rx_ledger.specs.Members.{is_same}
use Rattle.rx_ledger.specs.Plan.{Plan, drug_of}
use Rattle.rx_ledger.specs.Sums.{deductible_paid, paid_by_patient}
use Rattle.rx_explain.specs.declared.explanation.Explanation.{Explanation}
use Rattle.rx_explain.specs.declared.workings.Workings.{Workings}

-- an amount, at most the limit if it has one
abbrev pub at_most : Option ℕ → ℕ → ℕ
at_most None amount = amount
at_most (Some limit) amount = min amount limit

-- a copay is at most the rest that it is of, and then there is no coinsurance; a coinsurance is a percentage of the
-- rest, and then there is no copay
abbrev pub IsShareOf : Share → ℕ → ℕ → Amounts → Type 0
IsShareOf (Copay cents) rest share a = (share ≡ min cents rest) × (a.coinsurance ≡ 0)
IsShareOf (Percent percent) rest share a = (share ≡ rest * percent / 100) × (a.copay ≡ 0)

-- the amounts follow from the steps, and the steps from the plan, the billing and the rows
pub record IsReckoned (plan : Plan) (b : BillParts) (a : Amounts) (w : Workings) (rows : List Row) : Type 0 where
  pub listed : drug_of plan b.product ≡ Some w.payment.drug
  -- what was used before is the sum over exactly these rows
  pub deductible_used : w.payment.used.deductible ≡ sum_by deductible_paid (filter (λ r. is_same r.person b.person) rows)
  pub family_deductible_used : w.payment.used.family_deductible ≡ sum_by deductible_paid rows
  pub out_of_pocket_used : w.payment.used.out_of_pocket ≡ sum_by paid_by_patient rows
  -- what is left of a figure is the plan's less what was used
  pub deductible_left : w.deductible_left ≡ plan.figures.member_deductible - w.payment.used.deductible
  pub family_deductible_left : w.family_deductible_left
      ≡ option_map (λ figure. figure - w.payment.used.family_deductible) plan.figures.family_deductible
  pub room : w.room ≡ plan.figures.family_maximum - w.payment.used.out_of_pocket
  -- the lower of what was submitted and what the plan pays; in all no more than the charge, of which the fee is paid first
  pub cost : w.cost ≡ b.quantity * w.payment.drug.price / 100_000
  pub ingredient_cost : w.ingredient_cost ≡ min b.ingredient_cost w.cost
  pub dispensing_fee : w.dispensing_fee ≡ min (unwrap_or b.dispensing_fee 0) plan.figures.fee
  pub charge : w.cap ≡ unwrap_or b.usual_charge (unwrap_or b.gross_amount 0)
  pub allowed_is : allowed a ≡ min w.cap (w.ingredient_cost + w.dispensing_fee)
  pub fee_is : a.dispensing_fee ≡ min w.cap w.dispensing_fee
  -- the deductible first, then the copay or the coinsurance of the rest, together no more than the room
  pub under : w.under ≡ at_most w.family_deductible_left (min (allowed a) w.deductible_left)
  pub share : IsShareOf w.payment.drug.share (allowed a - w.under) w.share a
  pub deductible_is : a.deductible ≡ min w.under w.room
  pub member_pays : patient_pay a ≡ min (w.under + w.share) w.room
  pub plan_pays : total_paid a ≡ allowed a - patient_pay a

-- of a billing that is paid; of every other answer no steps are shown, and no rows
abbrev pub LeadsTo : Plan → Transaction → Answer → Option Workings → List Row → Type 0
LeadsTo plan (Bill b) (Paid p) (Some w) rows = IsReckoned plan b p.pricing w rows
LeadsTo plan (Bill b) (Paid p) None rows = ⊥
LeadsTo plan t given w rows = (w ≡ None) × (rows ≡ [])

-- the steps and the rows that an explanation shows lead to its answer
abbrev pub IsAccountedFor : Plan → Explanation → Type 0
IsAccountedFor plan x = LeadsTo plan x.transaction x.answer x.workings (map (λ t. t.row) x.counted.items)
