-- Meaning: what the member pays of an allowance.
use Rattle.std.specs.Prelude.{ℕ, ◌+◌, ◌-◌, ◌*◌, ◌/◌, Option, Some, None, min}
use Rattle.rx_d0_values.specs.declared.pricing.Amounts.{Amounts}
use Rattle.rx_ledger.specs.declared.drug.Share.{Share}
use Rattle.rx_ledger.specs.declared.drug.Share.TheVariants.{Copay, Percent}
use Rattle.rx_ledger.specs.declared.figures.Figures.{Figures}
use Rattle.rx_ledger.specs.declared.share.Used.{Used}
use Rattle.rx_ledger.specs.Price.{Allowance}

-- the plan's figure less what is used of it, and 0 where that is negative
abbrev pub left : ℕ → ℕ → ℕ
left figure used = figure - used

-- at most what is left of the family's deductible, where the plan has one
abbrev pub within_family : Option ℕ → ℕ → ℕ → ℕ
within_family None used amount = amount
within_family (Some figure) used amount = min amount (left figure used)

-- what falls under the deductible
abbrev pub under_deductible : Figures → Used → ℕ → ℕ
under_deductible f used allowed =
    within_family f.family_deductible used.family_deductible (min allowed (left f.member_deductible used.deductible))

-- the copay or the coinsurance of what is left after the deductible, within the room under the family maximum
abbrev pub copay_of : Share → ℕ → ℕ → ℕ
copay_of (Copay cents) rest room = min (min rest cents) room
copay_of (Percent percent) rest room = 0

abbrev pub coinsurance_of : Share → ℕ → ℕ → ℕ
coinsurance_of (Copay cents) rest room = 0
coinsurance_of (Percent percent) rest room = min (rest * percent / 100) room

-- the amounts of a claim with this allowance
abbrev pub shared : Figures → Share → Used → Allowance → Amounts
shared f share used a =
    let allowed = a.ingredient_cost + a.dispensing_fee in
    let under = under_deductible f used allowed in
    let room = left f.family_maximum used.out_of_pocket in
    let deductible = min under room in
    record {
      ingredient_cost = a.ingredient_cost;
      dispensing_fee = a.dispensing_fee;
      deductible = deductible;
      copay = copay_of share (allowed - under) (room - deductible);
      coinsurance = coinsurance_of share (allowed - under) (room - deductible);
    }
