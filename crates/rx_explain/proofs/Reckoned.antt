-- The amounts of a payable billing follow from the steps and the rows that are shown with it.
use Rattle.std.proofs.Common.{◌≡◌, ℕ, ◌+◌, ◌-◌, min, List, [], ◌∷◌, Option, Some, None}
use Rattle.std.proofs.Common.{refl, sym, ap, inl, inr, map, subst, arith}
use Rattle.std.specs.Prelude.{nat_lt, unwrap_or}
use Rattle.std.specs.Option.{option_map}
use Rattle.std.proofs.lemmas.Bool.{cases_Bool, ltb-false, ltb-true}
use Rattle.rx_fields.specs.Numbered.{LotParts}
use Rattle.rx_d0_values.specs.Billed.{cap}
use Rattle.rx_d0_values.specs.Priced.{allowed}
use Rattle.rx_d0_values.specs.declared.bill.BillParts.{BillParts}
use Rattle.rx_d0_values.specs.declared.pricing.Amounts.{Amounts}
use Rattle.rx_d0_values.specs.declared.transaction.Transaction.{Transaction}
use Rattle.rx_d0_values.specs.declared.transaction.Transaction.TheVariants.{Bill, Reverse, Faulty}
use Rattle.rx_ledger.specs.declared.decision.Decision.{Decision}
use Rattle.rx_ledger.specs.declared.decision.Decision.TheVariants as decision
use Rattle.rx_ledger.specs.declared.decision.Payment.{Payment}
use Rattle.rx_ledger.specs.declared.drug.Drug.{Drug}
use Rattle.rx_ledger.specs.declared.drug.Share.{Share}
use Rattle.rx_ledger.specs.declared.drug.Share.TheVariants.{Copay, Percent}
use Rattle.rx_ledger.specs.declared.figures.Figures.{Figures}
use Rattle.rx_ledger.specs.declared.row.Row.{Row}
use Rattle.rx_ledger.specs.Answers.{answer_to}
use Rattle.rx_ledger.specs.Decisions.{Asked, decision_of, payment}
use Rattle.rx_ledger.specs.Fold.{asked}
use Rattle.rx_ledger.specs.Ledger.{Ledger, rows_of}
use Rattle.rx_ledger.specs.Plan.{Plan, drug_of}
use Rattle.rx_ledger.specs.Price.{Allowance, capped, cost_of}
use Rattle.rx_ledger.specs.Share.{coinsurance_of, copay_of, under_deductible, within_family}
use Rattle.rx_ledger.specs.Sums.{deductible_paid, paid_by_patient}
use Rattle.rx_ledger.proofs.PaidShape.{payable}
use Rattle.rx_explain.specs.declared.at.At.{At}
use Rattle.rx_explain.specs.declared.events.Event.{Event}
use Rattle.rx_explain.specs.declared.explanation.Explanation.{Explanation}
use Rattle.rx_explain.specs.Explained.{IsOnLedger}
use Rattle.rx_explain.specs.Reckoned.{IsAccountedFor, IsReckoned, IsShareOf, LeadsTo, at_most}
use Rattle.rx_explain.specs.Shown.{counted_for, counted_rows}
use Rattle.rx_explain.specs.Spots.{Spot}
use Rattle.rx_explain.specs.Traces.{traced}
use Rattle.rx_explain.specs.Workings.{share_of, workings_for, workings_of}
use Rattle.rx_explain.proofs.Laws.{sum_of_shown, sum_of_shown_person}

-- ---- the parts of the amounts

-- within the charge, of which the fee is paid first
module _ (most : ℕ) (a : Allowance) where
  capped_total : (capped most a).ingredient_cost + (capped most a).dispensing_fee ≡ min most (a.ingredient_cost + a.dispensing_fee)
  capped_total = elim (cases_Bool (nat_lt most (a.ingredient_cost + a.dispensing_fee))) [
    | inl over ↦ rw over (omega (arith, ltb-true most (a.ingredient_cost + a.dispensing_fee) over))
    | inr within ↦ rw within (omega (arith, ltb-false most (a.ingredient_cost + a.dispensing_fee) within))
  ]

  capped_fee : (capped most a).dispensing_fee ≡ min most a.dispensing_fee
  capped_fee = elim (cases_Bool (nat_lt most (a.ingredient_cost + a.dispensing_fee))) [
    | inl over ↦ rw over (omega arith)
    | inr within ↦ rw within (omega (arith, ltb-false most (a.ingredient_cost + a.dispensing_fee) within))
  ]

-- the family's deductible, where the plan has one
under_both : (figure : Option ℕ) (used amount : ℕ) → within_family figure used amount
    ≡ at_most (option_map (λ f. f - used) figure) amount
under_both None used amount = refl
under_both (Some figure) used amount = refl

share_is : (s : Share) (rest : ℕ) (a : Amounts) (room : ℕ) → a.coinsurance ≡ coinsurance_of s rest room
    → a.copay ≡ copay_of s rest room → IsShareOf s rest (share_of s rest) a
share_is (Copay cents) rest a room coinsurance copay = (omega arith, coinsurance)
share_is (Percent percent) rest a room coinsurance copay = (refl, copay)

-- copay and coinsurance together are the share, within the room that the deductible leaves
shares_together : (s : Share) (rest room : ℕ) → copay_of s rest room + coinsurance_of s rest room ≡ min (share_of s rest) room
shares_together (Copay cents) rest room = omega arith
shares_together (Percent percent) rest room = omega arith

-- ---- a billing that is payable

module _ (plan : Plan) (L : Ledger) (b : BillParts) (drug : Drug) (listed : drug_of plan b.product ≡ Some drug) where
  abbrev f : Figures
  f = plan.figures

  abbrev paid : Payment
  paid = payment f drug b (rows_of L b.family)

  abbrev shown : List Row
  shown = counted_rows f.period L b.family

  abbrev submitted : Allowance
  submitted =
      record {
        ingredient_cost = min b.ingredient_cost (cost_of b.quantity drug.price);
        dispensing_fee = min (unwrap_or b.dispensing_fee 0) f.fee;
      }

  abbrev total : ℕ
  total = allowed paid.pricing

  abbrev below : ℕ
  below = under_deductible f paid.used total

  abbrev room : ℕ
  room = f.family_maximum - paid.used.out_of_pocket

  reckoned : IsReckoned plan b paid.pricing (workings_of f b paid) shown
  reckoned =
      record {
        listed = listed;
        deductible_used = sum_of_shown_person f.period L b.family b.person;
        family_deductible_used = sum_of_shown f.period L b.family deductible_paid;
        out_of_pocket_used = sum_of_shown f.period L b.family paid_by_patient;
        deductible_left = refl;
        family_deductible_left = refl;
        room = refl;
        cost = refl;
        ingredient_cost = refl;
        dispensing_fee = refl;
        charge = refl;
        allowed_is = capped_total (cap b) submitted;
        fee_is = capped_fee (cap b) submitted;
        under = under_both f.family_deductible paid.used.family_deductible (min total (f.member_deductible - paid.used.deductible));
        share = share_is drug.share (total - below) paid.pricing (room - min below room) refl refl;
        deductible_is = refl;
        member_pays = omega (arith, shares_together drug.share (total - below) (room - min below room));
        plan_pays = refl;
      }

-- ---- any decision

module _ (a : Asked) (L : Ledger) where
  abbrev shown_with : Transaction → Decision → List Row
  shown_with t d = counted_for a.plan.figures.period L t d

  leads : (t : Transaction) (d : Decision) → d ≡ decision_of a L t
      → LeadsTo a.plan t (answer_to a.number t d) (workings_for a.plan.figures t d) (shown_with t d)
  leads (Bill b) (decision.Payable p) is =
      let pays = payable a L b p (sym is) in
      subst (λ (q : Payment). IsReckoned a.plan b q.pricing (workings_of a.plan.figures b q) (counted_rows a.plan.figures.period L b.family))
      (sym pays.is) (reckoned a.plan L b pays.drug pays.listed)
  leads (Bill b) other is = (refl, refl)
  leads (Reverse v) d is = (refl, refl)
  leads (Faulty u) d is = (refl, refl)

-- ---- an explanation

rows_of_traced : (events : List Event) (at : At) (rows : List Row) → map (λ t. t.row) (map (traced events at) rows) ≡ rows
rows_of_traced events at [] = refl
rows_of_traced events at (r ∷ rows) = ap (λ more. r ∷ more) (rows_of_traced events at rows)

pub accounted : (lot : LotParts) (plan : Plan) (L : Ledger) (events : List Event) (at : At) (s : Spot) (x : Explanation)
    → IsOnLedger lot plan L events at s x → IsAccountedFor plan x
accounted lot plan L events at s x is =
    let a = asked lot plan at.place s.heard at.nth in
    rw (is.transaction_is, is.answer_is, is.workings_are, is.counted_are, is.decision_is)
    (rw rows_of_traced (leads a L s.transaction (decision_of a L s.transaction) refl))
