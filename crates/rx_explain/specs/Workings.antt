-- Meaning: the steps from a billing to its amounts.
use Rattle.std.specs.Prelude.{◌≡◌, ℕ, ◌+◌, ◌-◌, ◌*◌, ◌/◌, min, unwrap_or, Option, Some, None}
use Rattle.std.specs.Option.{option_map}
use Rattle.rx_d0_values.specs.Billed.{cap}
use Rattle.rx_d0_values.specs.declared.bill.BillParts.{BillParts}
use Rattle.rx_d0_values.specs.declared.transaction.Transaction.{Transaction}
use Rattle.rx_d0_values.specs.declared.transaction.Transaction.TheVariants.{Bill}
use Rattle.rx_ledger.specs.declared.decision.Decision.{Decision}
use Rattle.rx_ledger.specs.declared.decision.Decision.TheVariants as decision
use Rattle.rx_ledger.specs.declared.decision.Payment.{Payment}
use Rattle.rx_ledger.specs.declared.drug.Share.{Share}
use Rattle.rx_ledger.specs.declared.drug.Share.TheVariants.{Copay, Percent}
use Rattle.rx_ledger.specs.declared.figures.Figures.{Figures}
use Rattle.rx_ledger.specs.Plan.{Plan, drug_of}
use Rattle.rx_ledger.specs.Price.{allowance, cost_of}
use Rattle.rx_ledger.specs.Share.{left, under_deductible}
use Rattle.rx_explain.specs.declared.workings.Workings.{Workings}

-- the copay or the coinsurance of a rest, where no maximum cuts it
abbrev pub share_of : Share → ℕ → ℕ
share_of (Copay cents) rest = min rest cents
share_of (Percent percent) rest = rest * percent / 100

-- those of a billing that is paid so
abbrev pub workings_of : Figures → BillParts → Payment → Workings
workings_of f b p =
    let a = allowance p.drug.price f.fee b in
    let allowed = a.ingredient_cost + a.dispensing_fee in
    let under = under_deductible f p.used allowed in
    record {
      payment = p;
      cost = cost_of b.quantity p.drug.price;
      ingredient_cost = min b.ingredient_cost (cost_of b.quantity p.drug.price);
      dispensing_fee = min (unwrap_or b.dispensing_fee 0) f.fee;
      cap = cap b;
      deductible_left = left f.member_deductible p.used.deductible;
      family_deductible_left = option_map (λ figure. left figure p.used.family_deductible) f.family_deductible;
      room = left f.family_maximum p.used.out_of_pocket;
      under = under;
      share = share_of p.drug.share (allowed - under);
    }

-- those shown of a transaction: of a claim that is paid
abbrev pub workings_for : Figures → Transaction → Decision → Option Workings
workings_for f (Bill b) (decision.Payable p) = Some (workings_of f b p)
workings_for f t d = None

-- the drug by which a billing is paid is the plan's
abbrev pub IsListed : Plan → Transaction → Decision → Type 0
IsListed plan (Bill b) (decision.Payable p) = drug_of plan b.product ≡ Some p.drug
IsListed plan t d = Unit {0}
