-- What the member pays is no more than what is allowed.
use Rattle.std.proofs.Common.{◌≡◌, ◌≤◌, ℕ, ◌+◌, ◌-◌, ◌*◌, ◌/◌, true, min, Option, Some, None, IsSome, refl, arith}
use Rattle.std.proofs.Math.Nat.{mul-le-mul_left}
use Rattle.std.proofs.lemmas.Bool.{and_from, le-leb, leb-true}
use Rattle.rx_d0_values.specs.declared.pricing.Amounts.{Amounts}
use Rattle.rx_d0_values.specs.Priced.{allowed, is_priced, patient_pay, pricing_of}
use Rattle.rx_ledger.specs.declared.drug.Share.{Share}
use Rattle.rx_ledger.specs.declared.drug.Share.TheVariants.{Copay, Percent}
use Rattle.rx_ledger.specs.declared.figures.Figures.{Figures}
use Rattle.rx_ledger.specs.declared.share.Used.{Used}
use Rattle.rx_ledger.specs.Plan.{is_share}
use Rattle.rx_ledger.specs.Price.{Allowance}
use Rattle.rx_ledger.specs.Share.{coinsurance_of, copay_of, left, shared, under_deductible, within_family}

-- a percentage of at most 100 leaves no more than the amount
part-within : (amount percent : ℕ) → percent ≤ 100 → amount * percent / 100 ≤ amount
part-within amount percent h = omega (arith, mul-le-mul_left amount h)

within_family-within : (figure : Option ℕ) (used amount : ℕ) → within_family figure used amount ≤ amount
within_family-within None used amount = omega arith
within_family-within (Some figure) used amount = omega arith

pub under_deductible-within : (f : Figures) (used : Used) (allowed : ℕ) → under_deductible f used allowed ≤ allowed
under_deductible-within f used allowed =
    let of_member = min allowed (left f.member_deductible used.deductible) in
    omega (arith, within_family-within f.family_deductible used.family_deductible of_member)

-- copay and coinsurance together are no more than what is left after the deductible
share-within : (s : Share) (rest room : ℕ) → is_share s ≡ true
    → copay_of s rest room + coinsurance_of s rest room ≤ rest
share-within (Copay cents) rest room h = omega arith
share-within (Percent percent) rest room h = omega (arith, part-within rest percent (leb-true percent 100 h))

is_priced-fits : (a : Amounts) → allowed a ≤ 99_999_999 → patient_pay a ≤ allowed a → is_priced a ≡ true
is_priced-fits a small fits = and_from _ _ (le-leb _ _ small) (le-leb _ _ fits)

-- amounts that are within the limits of a claim
pub shared-priced : (f : Figures) (s : Share) (used : Used) (a : Allowance) → is_share s ≡ true
    → a.ingredient_cost + a.dispensing_fee ≤ 99_999_999 → is_priced (shared f s used a) ≡ true
shared-priced f s used a h small =
    let all = a.ingredient_cost + a.dispensing_fee in
    let under = under_deductible f used all in
    let room = left f.family_maximum used.out_of_pocket in
    let deductible = min under room in
    is_priced-fits (shared f s used a) small
    (omega (arith, under_deductible-within f used all, share-within s (all - under) (room - deductible) h))

pub pricing_of-there : (a : Amounts) → is_priced a ≡ true → IsSome (pricing_of a)
pricing_of-there a h = rw h refl
