-- Meaning: what a report for people says of an answer, column by column. What isn't known stays blank.
use Rattle.std.specs.Prelude.{ℕ, ℤ, Bool, true, false, List, [], ◌∷◌, ◌++◌, Option, Some, None, codes}
use Rattle.rx_print.specs.Dates.{dashed_digits}
use Rattle.rx_print.specs.Money.{signed_dollars, thousandths_text}
use Rattle.rx_report.specs.Cells.{cell, cents_of}
use Rattle.rx_report.specs.declared.column.Column.TheVariants as column
use Rattle.rx_report.specs.declared.line.Dispensed.{Dispensed}
use Rattle.rx_report.specs.declared.line.Line.{Line}
use Rattle.rx_report_text.specs.declared.shown.Shown.{Shown}
use Rattle.rx_report_text.specs.declared.shown.Shown.TheVariants as shown

-- the columns of aligned text, in order
abbrev pub columns : List Shown
columns =
    shown.Record ∷ shown.Answer ∷ shown.Codes ∷ shown.Prescription ∷ shown.Date ∷ shown.Member ∷ shown.Allowed
    ∷ shown.Deductible ∷ shown.Copay ∷ shown.Coinsurance ∷ shown.MemberPays ∷ shown.PlanPays ∷ []

abbrev pub heading_of : Shown → List ℕ
heading_of shown.Record = codes "record"
heading_of shown.Answer = codes "ans"
heading_of shown.Codes = codes "codes"
heading_of shown.Prescription = codes "rx"
heading_of shown.Date = codes "date"
heading_of shown.Member = codes "member"
heading_of shown.Allowed = codes "allowed"
heading_of shown.Deductible = codes "deduct."
heading_of shown.Copay = codes "copay"
heading_of shown.Coinsurance = codes "coins."
heading_of shown.MemberPays = codes "member pays"
heading_of shown.PlanPays = codes "plan pays"
heading_of shown.Product = codes "product"
heading_of shown.Quantity = codes "quantity"
heading_of shown.Days = codes "days"
heading_of shown.Authorization = codes "authorization"

abbrev pub is_amount : Shown → Bool
is_amount shown.Record = false
is_amount shown.Answer = false
is_amount shown.Codes = false
is_amount shown.Prescription = false
is_amount shown.Date = false
is_amount shown.Member = false
is_amount shown.Product = false
is_amount shown.Quantity = false
is_amount shown.Days = false
is_amount shown.Authorization = false
is_amount other = true

-- the family and the person, as F1/02
abbrev pub member_text : Option (List ℕ × List ℕ) → List ℕ
member_text None = []
member_text (Some m) = m.0 ++ (47 ∷ m.1)

-- the quantity of a billing in whole ones
abbrev pub quantity_text : Option Dispensed → List ℕ
quantity_text None = []
quantity_text (Some d) = thousandths_text d.quantity

-- the amount, if there is one
abbrev pub amount_text : Option ℤ → List ℕ
amount_text None = []
amount_text (Some cents) = signed_dollars cents

abbrev pub shown_cell : Shown → Line → List ℕ
shown_cell shown.Record l = cell column.Place l ++ (46 ∷ cell column.Nth l)
shown_cell shown.Answer l = cell column.Status l
shown_cell shown.Codes l = cell column.Codes l
shown_cell shown.Prescription l = cell column.Prescription l
shown_cell shown.Date l = dashed_digits l.date
shown_cell shown.Member l = member_text l.member
shown_cell shown.Allowed l = amount_text (cents_of column.Allowed l.answer)
shown_cell shown.Deductible l = amount_text (cents_of column.Deductible l.answer)
shown_cell shown.Copay l = amount_text (cents_of column.Copay l.answer)
shown_cell shown.Coinsurance l = amount_text (cents_of column.Coinsurance l.answer)
shown_cell shown.MemberPays l = amount_text (cents_of column.Member l.answer)
shown_cell shown.PlanPays l = amount_text (cents_of column.Plan l.answer)
shown_cell shown.Product l = cell column.Product l
shown_cell shown.Quantity l = quantity_text l.dispensed
shown_cell shown.Days l = cell column.Days l
shown_cell shown.Authorization l = cell column.Authorization l
