-- Meaning: the amounts of a paid claim, and what follows from them.
use Rattle.std.specs.Prelude.{◌≡◌, ℕ, ◌+◌, ◌-◌, Bool, true, ◌&&◌, nat_le, if◌then◌else◌, Option, Some, None}
use Rattle.rx_fields.specs.declared.limits.TheConstants.{MOST_CENTS}
use Rattle.rx_d0_values.specs.declared.pricing.Amounts.{Amounts}

-- ingredient cost and dispensing fee
abbrev pub allowed : Amounts → ℕ
allowed a = a.ingredient_cost + a.dispensing_fee

-- the patient pay amount: deductible, copay and coinsurance
abbrev pub patient_pay : Amounts → ℕ
patient_pay a = a.deductible + a.copay + a.coinsurance

-- the total paid: what is allowed less what the patient pays
abbrev pub total_paid : Amounts → ℕ
total_paid a = allowed a - patient_pay a

-- what is allowed fits its field, and the patient pays no more
abbrev pub is_priced : Amounts → Bool
is_priced a = nat_le (allowed a) MOST_CENTS && nat_le (patient_pay a) (allowed a)

abbrev pub IsPriced : Amounts → Type 0
IsPriced a = is_priced a ≡ true

-- the amounts, where they are within the limits
abbrev pub pricing_of : Amounts → Option Amounts
pricing_of a = if is_priced a then Some a else None
