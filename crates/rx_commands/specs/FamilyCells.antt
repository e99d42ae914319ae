-- Meaning: what a table of a family's claims has of a claim, column by column. What isn't known stays blank.
use Rattle.std.specs.Prelude.{ℕ, Bool, true, false, List, [], ◌∷◌, Option, Some, None, codes}
use Rattle.std.specs.Fmt.{decimal}
use Rattle.rx_d0_values.specs.Priced.{allowed, patient_pay, total_paid}
use Rattle.rx_fields.specs.Calendar.{date_text}
use Rattle.rx_fields.specs.Digits.{digits_text}
use Rattle.rx_commands.specs.declared.family.cells.Column.{Column}
use Rattle.rx_commands.specs.declared.family.cells.Column.TheVariants as column
use Rattle.rx_commands.specs.declared.family.sums.Claim.{Claim}

abbrev pub name_of : Column → List ℕ
name_of column.Date = codes "date"
name_of column.Person = codes "person"
name_of column.Prescription = codes "prescription"
name_of column.Provider = codes "provider"
name_of column.Product = codes "product"
name_of column.Quantity = codes "quantity"
name_of column.Days = codes "days"
name_of column.Allowed = codes "allowed"
name_of column.Deductible = codes "deductible"
name_of column.Copay = codes "copay"
name_of column.Coinsurance = codes "coinsurance"
name_of column.MemberPays = codes "member_pays"
name_of column.PlanPays = codes "plan_pays"
name_of column.Authorization = codes "authorization"
name_of column.DeductibleSum = codes "deductible_sum"
name_of column.FamilyDeductibleSum = codes "family_deductible_sum"
name_of column.OutOfPocketSum = codes "out_of_pocket_sum"
name_of column.DeductibleLeft = codes "deductible_left"
name_of column.FamilyDeductibleLeft = codes "family_deductible_left"
name_of column.OutOfPocketLeft = codes "out_of_pocket_left"
name_of column.Reached = codes "reached"

abbrev pub is_number : Column → Bool
is_number column.Date = false
is_number column.Person = false
is_number column.Provider = false
is_number column.Product = false
is_number column.Authorization = false
is_number column.Reached = false
is_number other = true

-- the columns but the first, in order
abbrev pub others : List Column
others =
    column.Person ∷ column.Prescription ∷ column.Provider ∷ column.Product ∷ column.Quantity ∷ column.Days ∷ column.Allowed
    ∷ column.Deductible ∷ column.Copay ∷ column.Coinsurance ∷ column.MemberPays ∷ column.PlanPays ∷ column.Authorization
    ∷ column.DeductibleSum ∷ column.FamilyDeductibleSum ∷ column.OutOfPocketSum ∷ column.DeductibleLeft
    ∷ column.FamilyDeductibleLeft ∷ column.OutOfPocketLeft ∷ column.Reached ∷ []

-- the limits that are reached: of the member's deductible, of the family's, and of its out of pocket
abbrev pub names_of_reached : Bool → Bool → Bool → List ℕ
names_of_reached false false false = []
names_of_reached true false false = codes "deductible"
names_of_reached false true false = codes "family_deductible"
names_of_reached false false true = codes "out_of_pocket"
names_of_reached true true false = codes "deductible,family_deductible"
names_of_reached true false true = codes "deductible,out_of_pocket"
names_of_reached false true true = codes "family_deductible,out_of_pocket"
names_of_reached true true true = codes "deductible,family_deductible,out_of_pocket"

abbrev pub reached_cell : Claim → List ℕ
reached_cell c = names_of_reached c.deductible.reaches c.family_deductible.reaches c.out_of_pocket.reaches

-- what is left of a limit; blank without one
abbrev pub left_cell : Option ℕ → List ℕ
left_cell None = []
left_cell (Some cents) = decimal cents

abbrev pub cell : Column → Claim → List ℕ
cell column.Date c = date_text c.row.key.date
cell column.Person c = c.row.person
cell column.Prescription c = decimal c.row.key.reference
cell column.Provider c = c.row.key.provider
cell column.Product c = digits_text 11 c.row.product
cell column.Quantity c = decimal c.row.quantity
cell column.Days c = decimal c.row.days
cell column.Allowed c = decimal (allowed c.row.pricing)
cell column.Deductible c = decimal c.row.pricing.deductible
cell column.Copay c = decimal c.row.pricing.copay
cell column.Coinsurance c = decimal c.row.pricing.coinsurance
cell column.MemberPays c = decimal (patient_pay c.row.pricing)
cell column.PlanPays c = decimal (total_paid c.row.pricing)
cell column.Authorization c = digits_text 15 c.row.number
cell column.DeductibleSum c = decimal c.deductible.sum
cell column.FamilyDeductibleSum c = decimal c.family_deductible.sum
cell column.OutOfPocketSum c = decimal c.out_of_pocket.sum
cell column.DeductibleLeft c = left_cell c.deductible.left
cell column.FamilyDeductibleLeft c = left_cell c.family_deductible.left
cell column.OutOfPocketLeft c = left_cell c.out_of_pocket.left
cell column.Reached c = reached_cell c
