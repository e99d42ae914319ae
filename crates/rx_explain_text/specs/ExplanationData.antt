-- Meaning: an explanation, and a rejected header, as a value of JSON. Amounts are in cents.
use Rattle.std.specs.Prelude.{ℕ, pos, List, [], ◌∷◌, ◌++◌, map, Option, Some, None, codes}
use Rattle.std.specs.Option.{unwrap_or}
use Rattle.rx_d0_values.specs.Priced.{patient_pay, total_paid}
use Rattle.rx_d0_values.specs.declared.bill.BillParts.{BillParts}
use Rattle.rx_d0_values.specs.declared.pricing.Amounts.{Amounts}
use Rattle.rx_d0_values.specs.declared.reply.Answer.{Answer}
use Rattle.rx_d0_values.specs.declared.reply.Paid.{Paid}
use Rattle.rx_d0_values.specs.declared.reply.Answer.TheVariants as answer
use Rattle.rx_d0_values.specs.declared.transaction.Transaction.{Transaction}
use Rattle.rx_d0_values.specs.declared.transaction.Transaction.TheVariants.{Bill, Reverse, Faulty}
use Rattle.rx_d0_values.specs.declared.transmission.Rejected.{Rejected}
use Rattle.rx_explain.specs.declared.at.At.{At}
use Rattle.rx_explain.specs.declared.explanation.Explanation.{Explanation}
use Rattle.rx_explain.specs.declared.traced.Source.{Source}
use Rattle.rx_explain.specs.declared.traced.Source.TheVariants.{Opening, Record, Elsewhere}
use Rattle.rx_explain.specs.declared.traced.Traced.{Traced}
use Rattle.rx_explain.specs.declared.workings.Workings.{Workings}
use Rattle.rx_explain_text.specs.Claims.{as_decided}
use Rattle.rx_explain_text.specs.Figures.{paid_of}
use Rattle.rx_explain_text.specs.Reasons.{days_between}
use Rattle.rx_explain_text.specs.RequestField.{field_bytes, field_number}
use Rattle.rx_explain_text.specs.Words.{case_name_of, name_of, expected_of}
use Rattle.rx_explain_text.specs.declared.compared.Compared.{Compared}
use Rattle.rx_explain_text.specs.declared.compared.Compared.TheVariants.{Same, Differs, Absent, OtherBatch}
use Rattle.rx_fields.specs.Calendar.{Civil}
use Rattle.rx_fields.specs.Codes.{code_text}
use Rattle.rx_fields.specs.Digits.{digits_text}
use Rattle.rx_fields.specs.Numbered.{LotParts, Span}
use Rattle.rx_fields.specs.declared.code.Code.{Code}
use Rattle.rx_fields.specs.declared.code.Code.TheVariants as code
use Rattle.rx_ledger.specs.declared.decision.Decision.{Decision}
use Rattle.rx_ledger.specs.declared.decision.Decision.TheVariants as decision
use Rattle.rx_ledger.specs.declared.drug.Share.{Share}
use Rattle.rx_ledger.specs.declared.drug.Share.TheVariants.{Copay, Percent}
use Rattle.rx_ledger.specs.declared.figures.Figures.{Figures}
use Rattle.rx_ledger.specs.declared.row.Row.{Row}
use Rattle.rx_print.specs.Dates.{dashed}
use Rattle.rx_print.specs.JsonData.{Value, Null, Number, Text, array, object}

-- ---- members: a name and a value

abbrev pub Member : Type 0
Member = List ℕ × Value

abbrev pub count : List ℕ → ℕ → Member
count name n = (name, Number (pos n))

abbrev pub text : List ℕ → List ℕ → Member
text name bytes = (name, Text bytes)

-- as 2026-03-05
abbrev pub day : List ℕ → Civil → Member
day name d = (name, Text (dashed d))

-- null if there is none
abbrev pub known_data : Option (List ℕ) → Value
known_data None = Null
known_data (Some bytes) = Text bytes

-- a record's place, and the transaction's in it
abbrev pub at_data : At → Value
at_data at = object (count (codes "place") at.place ∷ count (codes "nth") at.nth ∷ [])

-- what a response file has at the place of the record
abbrev pub compared_data : Option Compared → List Member
compared_data None = []
compared_data (Some Same) = text (codes "response") (codes "same") ∷ []
compared_data (Some Differs) = text (codes "response") (codes "differs") ∷ []
compared_data (Some Absent) = text (codes "response") (codes "absent") ∷ []
compared_data (Some (OtherBatch lot)) = text (codes "response") (codes "other batch") ∷ []

-- ---- codes

abbrev pub named_code : Code → List Member
named_code c = text (codes "code") (code_text c) ∷ text (codes "name") (name_of c) ∷ []

abbrev pub decided_code : Code → Value
decided_code c = object (named_code c)

abbrev pub decided_data : List Code → Member
decided_data cs = (codes "codes", array (map decided_code cs))

-- the bytes of a request that a code speaks of
abbrev pub bytes_data : List ℕ → List ℕ → ℕ → Code → Member
bytes_data name request nth c = (name, known_data (field_bytes request nth c))

-- of a syntax error those of the whole part
abbrev pub whole_part : List ℕ → ℕ → Code → List Member
whole_part request nth code.Syntax = bytes_data (codes "bytes") request nth code.Syntax ∷ []
whole_part request nth other = []

-- the field that a code speaks of, and its bytes
abbrev pub field_data : List ℕ → ℕ → Code → Option (List ℕ) → List Member
field_data request nth c None = whole_part request nth c
field_data request nth c (Some field) = text (codes "field") field ∷ bytes_data (codes "bytes") request nth c ∷ []

abbrev pub read_code : List ℕ → ℕ → Code → Value
read_code request nth c =
    object (named_code c ++ text (codes "expected") (expected_of c) ∷ field_data request nth c (field_number c))

abbrev pub codes_data : List ℕ → ℕ → List Code → Member
codes_data request nth cs = (codes "codes", array (map (read_code request nth) cs))

-- ---- what was asked, and what was answered

abbrev pub amounts_data : Amounts → List Member
amounts_data a =
    count (codes "ingredient_cost") a.ingredient_cost ∷ count (codes "dispensing_fee") a.dispensing_fee
    ∷ count (codes "deductible") a.deductible ∷ count (codes "copay") a.copay ∷ count (codes "coinsurance") a.coinsurance
    ∷ count (codes "patient_pay") (patient_pay a) ∷ count (codes "total_paid") (total_paid a) ∷ []

abbrev pub bill_data : BillParts → List Member
bill_data b =
    count (codes "rx") b.reference ∷ text (codes "family") b.family ∷ text (codes "person") b.person
    ∷ text (codes "product") (digits_text 11 b.product) ∷ count (codes "quantity_thousandths") b.quantity
    ∷ count (codes "days") b.days ∷ []

abbrev pub reference_data : Option ℕ → List Member
reference_data None = []
reference_data (Some reference) = count (codes "rx") reference ∷ []

abbrev pub asked_data : Transaction → List Member
asked_data (Bill b) = bill_data b
asked_data (Reverse v) = count (codes "rx") v.reference ∷ text (codes "product") (digits_text 11 v.product) ∷ []
asked_data (Faulty f) = reference_data f.reference

-- an answer with its authorization number
abbrev pub numbered_data : List ℕ → ℕ → List Member
numbered_data answer number = text (codes "answer") answer ∷ text (codes "number") (digits_text 15 number) ∷ []

abbrev pub paid_data : List ℕ → Paid → List Member
paid_data answer p = numbered_data answer p.number ++ amounts_data p.pricing

-- the code of a decision, or each code of a transaction that can't be read
abbrev pub refusal_data : Transaction → ℕ → List ℕ → List Code → Member
refusal_data (Bill b) nth request cs = decided_data cs
refusal_data (Reverse v) nth request cs = decided_data cs
refusal_data (Faulty f) nth request cs = codes_data request nth cs

abbrev pub answer_data : Answer → Explanation → List ℕ → List Member
answer_data (answer.Paid p) e request = paid_data (codes "paid") p
answer_data (answer.Twice p) e request = paid_data (codes "duplicate") p
answer_data (answer.Approved a) e request =
    numbered_data (codes "taken back") a.number ++ count (codes "total_paid") a.total_paid ∷ []
answer_data (answer.Refused r) e request =
    text (codes "answer") (codes "refused") ∷ refusal_data e.transaction e.at.nth request r.codes ∷ []

-- ---- what decided a billing that isn't paid

abbrev pub coverage_data : Span → Span → List Member
coverage_data period coverage =
    day (codes "covered_first") coverage.first ∷ day (codes "covered_last") coverage.last ∷ day (codes "period_last") period.last
    ∷ []

abbrev pub open_data : Option Civil → Member
open_data None = (codes "first_date", Null)
open_data (Some d) = day (codes "first_date") d

-- how few days of an earlier fill have passed
abbrev pub soon_data : Figures → Explanation → Option Traced → List Member
soon_data figures e None = []
soon_data figures e (Some t) =
    count (codes "days_passed") (days_between e.date t.row.key.date) ∷ count (codes "refill_percent") figures.refill_percent
    ∷ open_data e.open_from ∷ []

abbrev pub case_data : Decision → LotParts → Figures → Explanation → List Member
case_data decision.BeforePeriod lot figures e = day (codes "period_first") figures.period.first ∷ []
case_data decision.AfterCreation lot figures e = day (codes "created") lot.created ∷ []
case_data (decision.NotCovered m) lot figures e = coverage_data figures.period m.coverage
case_data decision.TooManyDays lot figures e = count (codes "most_days") figures.max_days ∷ []
case_data decision.TooSoon lot figures e = soon_data figures e e.standing
case_data other lot figures e = []

-- ---- a standing claim

-- the transaction that was paid, where the claim is one of the batch
abbrev pub from_data : Source → List Member
from_data Opening = []
from_data (Record at) = (codes "paid_by", at_data at) ∷ []
from_data Elsewhere = []

abbrev pub end_data : Option At → List Member
end_data None = []
end_data (Some at) = (codes "taken_back_by", at_data at) ∷ []

abbrev pub row_data : Row → List Member
row_data r =
    text (codes "pharmacy") r.key.provider ∷ count (codes "rx") r.key.reference ∷ day (codes "date") r.key.date
    ∷ text (codes "family") r.family ∷ text (codes "person") r.person ∷ text (codes "product") (digits_text 11 r.product)
    ∷ count (codes "days") r.days ∷ amounts_data r.pricing

abbrev pub whole_data : Traced → Value
whole_data t = object (row_data t.row ++ (from_data t.source ++ end_data t.taken_back))

-- of another pharmacy's claim the date and what counts
abbrev pub elsewhere_data : Row → Value
elsewhere_data r =
    object ((codes "pharmacy", Null) ∷ day (codes "date") r.key.date ∷ count (codes "deductible") r.pricing.deductible
    ∷ count (codes "patient_pay") (patient_pay r.pricing) ∷ [])

abbrev pub claim_by : Source → Traced → Value
claim_by Opening t = whole_data t
claim_by (Record at) t = whole_data t
claim_by Elsewhere t = elsewhere_data t.row

abbrev pub traced_data : Traced → Value
traced_data t = claim_by t.source t

abbrev pub standing_data : Decision → Option Traced → List Member
standing_data c None = []
standing_data c (Some t) = (codes "standing", traced_data (as_decided c t)) ∷ []

-- ---- the steps to the amounts of a claim that is paid

-- which field the charge is of
abbrev pub charge_field : Option ℕ → List ℕ
charge_field None = codes "DU"
charge_field (Some cents) = codes "DQ"

abbrev pub price_data : Figures → BillParts → Workings → List Member
price_data figures b w =
    count (codes "submitted_cost") b.ingredient_cost ∷ count (codes "price_hundredths") w.payment.drug.price
    ∷ count (codes "submitted_fee") (unwrap_or b.dispensing_fee 0) ∷ count (codes "plan_fee") figures.fee
    ∷ text (codes "charge_field") (charge_field b.usual_charge) ∷ []

-- the family's deductible, where the plan has one
abbrev pub family_data : Option ℕ → Option ℕ → Workings → List Member
family_data (Some figure) (Some left) w =
    count (codes "family_deductible") figure ∷ count (codes "family_deductible_used") w.payment.used.family_deductible
    ∷ count (codes "family_deductible_left") left ∷ []
family_data (Some figure) None w = []
family_data None left w = []

abbrev pub accumulators_data : Figures → Workings → List Member
accumulators_data figures w =
    count (codes "member_deductible") figures.member_deductible
    ∷ count (codes "member_deductible_used") w.payment.used.deductible ∷ count (codes "deductible_left") w.deductible_left
    ∷ (family_data figures.family_deductible w.family_deductible_left w ++ count (codes "family_maximum") figures.family_maximum
    ∷ count (codes "family_maximum_used") w.payment.used.out_of_pocket ∷ count (codes "family_maximum_left") w.room ∷ [])

abbrev pub share_data : Share → Member
share_data (Copay cents) = count (codes "tier_copay") cents
share_data (Percent percent) = count (codes "tier_percent") percent

-- the name of the tier in the plan sheet, where it has one
abbrev pub tier_data : Option (List ℕ) → List Member
tier_data None = []
tier_data (Some name) = text (codes "tier") name ∷ []

-- what falls under the deductible and what is shared, before the family's maximum cuts them; the tier and its share
abbrev pub due_data : Option (List ℕ) → Workings → List Member
due_data tier w =
    count (codes "deductible_due") w.under ∷ count (codes "share_due") w.share
    ∷ (tier_data tier ++ share_data w.payment.drug.share ∷ [])

abbrev pub workings_data : Option (List ℕ) → Figures → Workings → List Member
workings_data tier figures w =
    count (codes "cost") w.cost ∷ count (codes "cost_before_charge") w.ingredient_cost
    ∷ count (codes "fee_before_charge") w.dispensing_fee ∷ count (codes "charge") w.cap
    ∷ (accumulators_data figures w ++ due_data tier w)

abbrev pub payable_data : Option (List ℕ) → Figures → Explanation → BillParts → Workings → List Member
payable_data tier figures e b w =
    price_data figures b w ++ (workings_data tier figures w ++ (codes "counted", array (map traced_data e.counted.items)) ∷ [])

-- of a claim that is paid; nothing of another
abbrev pub figures_data : Option (List ℕ) → Figures → Explanation → Option (BillParts × Workings) → List Member
figures_data tier figures e None = []
figures_data tier figures e (Some p) = payable_data tier figures e p.0 p.1

-- ---- the object

abbrev pub header_data : Explanation → List ℕ → List Member
header_data e request =
    count (codes "nth") e.at.nth ∷ text (codes "pharmacy") e.provider ∷ day (codes "date") e.date
    ∷ (asked_data e.transaction ++ (answer_data e.answer e request ++ text (codes "case") (case_name_of e.decision) ∷ []))

abbrev pub explanation_data : LotParts → Figures → Explanation → List ℕ → Option (List ℕ) → Option Compared → Value
explanation_data lot figures e request tier c =
    object (count (codes "place") e.at.place ∷ (header_data e request ++ (case_data e.decision lot figures e
    ++ (standing_data e.decision e.standing ++ (figures_data tier figures e (paid_of e.transaction e.workings) ++ compared_data c)))))

-- a record whose header is rejected
abbrev pub rejection_data : ℕ → Rejected → List ℕ → Option Compared → Value
rejection_data place r request c =
    object (count (codes "place") place ∷ bytes_data (codes "pharmacy") request 0 code.Provider
    ∷ bytes_data (codes "date") request 0 code.DateOfService ∷ text (codes "answer") (codes "header rejected")
    ∷ codes_data request 0 r.codes ∷ compared_data c)
