-- Meaning: what is paid for a drug before the patient's share.
use Rattle.std.specs.Prelude.{ℕ, ◌+◌, ◌-◌, ◌*◌, ◌/◌, nat_lt, if◌then◌else◌, unwrap_or, min}
use Rattle.rx_d0_values.specs.declared.bill.BillParts.{BillParts}
use Rattle.rx_d0_values.specs.Billed.{cap}

-- an ingredient cost and a dispensing fee, in cents
pub record Allowance : Type 0 where
  pub ingredient_cost : ℕ
  pub dispensing_fee : ℕ

-- a quantity in thousandths at a price in hundredths of a cent per unit, in whole cents rounded down
abbrev pub cost_of : ℕ → ℕ → ℕ
cost_of quantity price = quantity * price / 100_000

-- the allowance, the fee first where it exceeds the cap: the fee is at most the cap, and the cost what the cap leaves
abbrev pub capped : ℕ → Allowance → Allowance
capped most a =
    let fee = min a.dispensing_fee most in
    if nat_lt most (a.ingredient_cost + a.dispensing_fee)
    then record { ingredient_cost = most - fee; dispensing_fee = fee }
    else a

-- no more than was submitted, nor than the plan pays: its price, and its most of a fee; in all no more than the charge
abbrev pub allowance : ℕ → ℕ → BillParts → Allowance
allowance price most_fee b =
    capped (cap b)
    (record {
      ingredient_cost = min b.ingredient_cost (cost_of b.quantity price);
      dispensing_fee = min (unwrap_or b.dispensing_fee 0) most_fee;
    })
