-- Meaning: what a report says of an answer, column by column. What isn't known stays blank.
use Rattle.std.specs.Prelude.{ℕ, ℤ, pos, neg_ℤ, Bool, true, false, List, [], ◌∷◌, Option, Some, None, codes}
use Rattle.std.specs.Fmt.{decimal, signed_decimal}
use Rattle.rx_d0_values.specs.Priced.{allowed, patient_pay, total_paid}
use Rattle.rx_d0_values.specs.declared.pricing.Amounts.{Amounts}
use Rattle.rx_d0_values.specs.declared.reply.Answer.{Answer}
use Rattle.rx_d0_values.specs.declared.reply.Answer.TheVariants.{Paid, Twice, Approved, Refused}
use Rattle.rx_report.specs.declared.column.Column.{Column}
use Rattle.rx_report.specs.declared.column.Column.TheVariants as column
use Rattle.rx_report.specs.declared.line.Dispensed.{Dispensed}
use Rattle.rx_report.specs.declared.line.Line.{Line}
use Rattle.rx_fields.specs.Digits.{digits_text}
use Rattle.rx_settle.specs.Providers.{named}
use Rattle.rx_print.specs.CodeList.{code_list}

abbrev pub name_of : Column → List ℕ
name_of column.Place = codes "record"
name_of column.Nth = codes "nth"
name_of column.Status = codes "answer"
name_of column.Codes = codes "codes"
name_of column.Provider = codes "provider"
name_of column.Prescription = codes "prescription"
name_of column.Date = codes "date"
name_of column.Family = codes "family"
name_of column.Person = codes "person"
name_of column.Allowed = codes "allowed"
name_of column.Deductible = codes "deductible"
name_of column.Copay = codes "copay"
name_of column.Coinsurance = codes "coinsurance"
name_of column.Member = codes "member_pays"
name_of column.Plan = codes "plan_pays"
name_of column.Authorization = codes "authorization"
name_of column.Product = codes "product"
name_of column.Quantity = codes "quantity"
name_of column.Days = codes "days"

abbrev pub is_number : Column → Bool
is_number column.Status = false
is_number column.Codes = false
is_number column.Provider = false
is_number column.Date = false
is_number column.Family = false
is_number column.Person = false
is_number column.Authorization = false
is_number column.Product = false
is_number other = true

-- the columns but the first, in order
abbrev pub others : List Column
others =
    column.Nth ∷ column.Status ∷ column.Codes ∷ column.Provider ∷ column.Prescription ∷ column.Date ∷ column.Family
    ∷ column.Person ∷ column.Allowed ∷ column.Deductible ∷ column.Copay ∷ column.Coinsurance ∷ column.Member
    ∷ column.Plan ∷ column.Authorization ∷ column.Product ∷ column.Quantity ∷ column.Days ∷ []

-- P, D, A or R
abbrev pub status_of : Answer → ℕ
status_of (Paid p) = 80
status_of (Twice p) = 68
status_of (Approved a) = 65
status_of (Refused r) = 82

abbrev pub codes_cell : Answer → List ℕ
codes_cell (Paid p) = []
codes_cell (Twice p) = []
codes_cell (Approved a) = []
codes_cell (Refused r) = code_list r.codes

-- a number, where it is known
abbrev pub known_cell : Option ℕ → List ℕ
known_cell None = []
known_cell (Some number) = decimal number

abbrev pub reference_of : Answer → Option ℕ
reference_of (Paid p) = Some p.reference
reference_of (Twice p) = Some p.reference
reference_of (Approved a) = Some a.reference
reference_of (Refused r) = r.reference

abbrev pub family_cell : Option (List ℕ × List ℕ) → List ℕ
family_cell None = []
family_cell (Some m) = m.0

abbrev pub person_cell : Option (List ℕ × List ℕ) → List ℕ
person_cell None = []
person_cell (Some m) = m.1

-- the authorization number of a claim, or of the reversal of one
abbrev pub authorization_cell : Answer → List ℕ
authorization_cell (Paid p) = digits_text 15 p.number
authorization_cell (Twice p) = digits_text 15 p.number
authorization_cell (Approved a) = digits_text 15 a.number
authorization_cell (Refused r) = []

abbrev pub product_cell : Option ℕ → List ℕ
product_cell None = []
product_cell (Some product) = digits_text 11 product

-- in thousandths
abbrev pub quantity_of : Option Dispensed → Option ℕ
quantity_of None = None
quantity_of (Some d) = Some d.quantity

abbrev pub days_of : Option Dispensed → Option ℕ
days_of None = None
days_of (Some d) = Some d.days

-- the cents of a claim in a column; what the plan pays is in the last
abbrev pub cents_in : Column → Amounts → ℕ
cents_in column.Allowed a = allowed a
cents_in column.Deductible a = a.deductible
cents_in column.Copay a = a.copay
cents_in column.Coinsurance a = a.coinsurance
cents_in column.Member a = patient_pay a
cents_in other a = total_paid a

-- what is given back stands in the last, below zero
abbrev pub given_back : Column → ℕ → Option ℤ
given_back column.Plan n = Some (neg_ℤ (pos n))
given_back other n = None

-- the cents of an answer in a column of amounts; a claim that stands already has its amounts too
abbrev pub cents_of : Column → Answer → Option ℤ
cents_of c (Paid p) = Some (pos (cents_in c p.pricing))
cents_of c (Twice p) = Some (pos (cents_in c p.pricing))
cents_of c (Approved a) = given_back c a.total_paid
cents_of c (Refused r) = None

abbrev pub cents_cell : Option ℤ → List ℕ
cents_cell None = []
cents_cell (Some cents) = signed_decimal cents

abbrev pub cell : Column → Line → List ℕ
cell column.Place l = decimal l.place
cell column.Nth l = decimal l.nth
cell column.Status l = status_of l.answer ∷ []
cell column.Codes l = codes_cell l.answer
cell column.Provider l = named l.provider
cell column.Prescription l = known_cell (reference_of l.answer)
cell column.Date l = l.date
cell column.Family l = family_cell l.member
cell column.Person l = person_cell l.member
cell column.Allowed l = cents_cell (cents_of column.Allowed l.answer)
cell column.Deductible l = cents_cell (cents_of column.Deductible l.answer)
cell column.Copay l = cents_cell (cents_of column.Copay l.answer)
cell column.Coinsurance l = cents_cell (cents_of column.Coinsurance l.answer)
cell column.Member l = cents_cell (cents_of column.Member l.answer)
cell column.Plan l = cents_cell (cents_of column.Plan l.answer)
cell column.Authorization l = authorization_cell l.answer
cell column.Product l = product_cell l.product
cell column.Quantity l = known_cell (quantity_of l.dispensed)
cell column.Days l = known_cell (days_of l.dispensed)
