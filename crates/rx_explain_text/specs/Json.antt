-- Text: an explanation as one JSON object on one line. Amounts are in cents.
use Rattle.std.specs.Prelude.{ℕ, List, [], ◌∷◌, ◌++◌, Option, Some, None, codes}
use Rattle.std.specs.Fmt.{decimal}
use Rattle.std.specs.List.{flat_map}
use Rattle.std.specs.Option.{unwrap_or}
use Rattle.rx_d0_values.specs.Priced.{patient_pay, total_paid}
use Rattle.rx_d0_values.specs.declared.bill.BillParts.{BillParts}
use Rattle.rx_d0_values.specs.declared.pricing.Amounts.{Amounts}
use Rattle.rx_d0_values.specs.declared.reply.Answer.{Answer}
use Rattle.rx_d0_values.specs.declared.reply.Approved.{Approved}
use Rattle.rx_d0_values.specs.declared.reply.Paid.{Paid}
use Rattle.rx_d0_values.specs.declared.reply.Answer.TheVariants as answer
use Rattle.rx_d0_values.specs.declared.transaction.Transaction.{Transaction}
use Rattle.rx_d0_values.specs.declared.transaction.Transaction.TheVariants.{Bill, Reverse, Faulty}
use Rattle.rx_d0_values.specs.declared.transmission.Rejected.{Rejected}
use Rattle.rx_print.specs.Escape.{escaped}
use Rattle.rx_print.specs.declared.style.Style.TheVariants.{Json}
use Rattle.rx_explain.specs.declared.at.At.{At}
use Rattle.rx_ledger.specs.declared.decision.Decision.{Decision}
use Rattle.rx_ledger.specs.declared.decision.Decision.TheVariants as decision
use Rattle.rx_explain.specs.declared.workings.Workings.{Workings}
use Rattle.rx_explain.specs.declared.explanation.Explanation.{Explanation}
use Rattle.rx_explain.specs.declared.traced.Source.{Source}
use Rattle.rx_explain.specs.declared.traced.Source.TheVariants.{Opening, Record, Elsewhere}
use Rattle.rx_explain.specs.declared.traced.Traced.{Traced}
use Rattle.rx_explain_text.specs.Claims.{as_decided}
use Rattle.rx_print.specs.Dates.{dashed}
use Rattle.rx_explain_text.specs.Figures.{if_paid, paid_of}
use Rattle.rx_explain_text.specs.Reasons.{days_between}
use Rattle.rx_explain_text.specs.RequestField.{field_bytes, field_number}
use Rattle.rx_explain_text.specs.Said.{said, say}
use Rattle.rx_explain_text.specs.Words.{case_name_of, name_of, expected_of}
use Rattle.rx_explain_text.specs.declared.compared.Compared.{Compared}
use Rattle.rx_explain_text.specs.declared.compared.Compared.TheVariants.{Same, Differs, Absent, OtherBatch}
use Rattle.rx_fields.specs.Calendar.{Civil}
use Rattle.rx_fields.specs.Codes.{code_text}
use Rattle.rx_fields.specs.Digits.{digits_text}
use Rattle.rx_fields.specs.Numbered.{LotParts, Span}
use Rattle.rx_fields.specs.declared.code.Code.{Code}
use Rattle.rx_fields.specs.declared.code.Code.TheVariants as code
use Rattle.rx_ledger.specs.declared.drug.Share.{Share}
use Rattle.rx_ledger.specs.declared.drug.Share.TheVariants.{Copay, Percent}
use Rattle.rx_ledger.specs.declared.figures.Figures.{Figures}
use Rattle.rx_ledger.specs.declared.row.Row.{Row}

-- ---- members of an object

-- a string, of bytes as they are in JSON
unfoldable pub quoted : List ℕ → List ℕ
quoted bytes = say "\"" ++ (escaped Json bytes ++ say "\"")

-- a name after the comma that ends the member before
unfoldable pub named : List ℕ → List ℕ
named name = say ",\"" ++ (said name ++ say "\":")

unfoldable pub number_member : List ℕ → ℕ → List ℕ
number_member name n = named name ++ decimal n

unfoldable pub day_member : List ℕ → Civil → List ℕ
day_member name day = named name ++ (say "\"" ++ (dashed day ++ say "\""))

-- words of this program, which need no escape
unfoldable pub said_member : List ℕ → List ℕ → List ℕ
said_member name words = named name ++ (say "\"" ++ (said words ++ say "\""))

unfoldable pub text_member : List ℕ → List ℕ → List ℕ
text_member name text = named name ++ quoted text

-- null if there are none
abbrev pub bytes_json : Option (List ℕ) → List ℕ
bytes_json None = say "null"
bytes_json (Some bytes) = quoted bytes

-- the bytes of a request that a code speaks of
unfoldable pub bytes_member : List ℕ → List ℕ → ℕ → Code → List ℕ
bytes_member name request nth c = named name ++ bytes_json (field_bytes request nth c)

-- an object's front, and a record's place
unfoldable pub place_json : ℕ → List ℕ
place_json place = say "{\"place\":" ++ decimal place

unfoldable pub at_member : List ℕ → At → List ℕ
at_member name at = named name ++ (place_json at.place ++ (number_member (codes "nth") at.nth ++ say "}"))

-- items in brackets, a comma between each two: before each but the first
abbrev pub after_comma : {T : Type 0} → (T → List ℕ) → T → List ℕ
after_comma item x = say "," ++ item x

abbrev pub between_commas : {T : Type 0} → (T → List ℕ) → List T → List ℕ
between_commas item [] = []
between_commas item (x ∷ others) = item x ++ flat_map (after_comma item) others

abbrev pub list_member : {T : Type 0} → List ℕ → (T → List ℕ) → List T → List ℕ
list_member name item items = named name ++ (say "[" ++ (between_commas item items ++ say "]"))

-- what a response file has at the place of the record
abbrev pub compared_json : Option Compared → List ℕ
compared_json None = []
compared_json (Some Same) = said_member (codes "response") (codes "same")
compared_json (Some Differs) = said_member (codes "response") (codes "differs")
compared_json (Some Absent) = said_member (codes "response") (codes "absent")
compared_json (Some (OtherBatch lot)) = said_member (codes "response") (codes "other batch")

-- ---- codes

-- a code with its name
unfoldable pub front_json : Code → List ℕ
front_json c = say "{\"code\":" ++ (quoted (code_text c) ++ said_member (codes "name") (name_of c))

unfoldable pub decided_code : Code → List ℕ
decided_code c = front_json c ++ say "}"

unfoldable pub decided_json : List Code → List ℕ
decided_json cs = list_member (codes "codes") decided_code cs

-- the field that a code speaks of, and its bytes; of a syntax error those of the whole part
abbrev pub whole_part : List ℕ → ℕ → Code → List ℕ
whole_part request nth code.Syntax = bytes_member (codes "bytes") request nth code.Syntax
whole_part request nth other = []

unfoldable pub spoken_field : List ℕ → List ℕ → ℕ → Code → List ℕ
spoken_field field request nth c = said_member (codes "field") field ++ bytes_member (codes "bytes") request nth c

abbrev pub field_json : List ℕ → ℕ → Code → Option (List ℕ) → List ℕ
field_json request nth c None = whole_part request nth c
field_json request nth c (Some field) = spoken_field field request nth c

unfoldable pub code_json : List ℕ → ℕ → Code → List ℕ
code_json request nth c =
    front_json c ++ (said_member (codes "expected") (expected_of c) ++ (field_json request nth c (field_number c) ++ say "}"))

unfoldable pub codes_json : List ℕ → ℕ → List Code → List ℕ
codes_json request nth cs = list_member (codes "codes") (code_json request nth) cs

-- ---- what was asked, and what was answered

unfoldable pub amounts_json : Amounts → List ℕ
amounts_json a =
    number_member (codes "ingredient_cost") a.ingredient_cost ++ (number_member (codes "dispensing_fee") a.dispensing_fee
    ++ (number_member (codes "deductible") a.deductible ++ (number_member (codes "copay") a.copay
    ++ (number_member (codes "coinsurance") a.coinsurance ++ (number_member (codes "patient_pay") (patient_pay a)
    ++ number_member (codes "total_paid") (total_paid a))))))

unfoldable pub bill_json : BillParts → List ℕ
bill_json b =
    number_member (codes "rx") b.reference ++ (text_member (codes "family") b.family
    ++ (text_member (codes "person") b.person ++ (text_member (codes "product") (digits_text 11 b.product)
    ++ (number_member (codes "quantity_thousandths") b.quantity ++ number_member (codes "days") b.days))))

abbrev pub reference_json : Option ℕ → List ℕ
reference_json None = []
reference_json (Some reference) = number_member (codes "rx") reference

abbrev pub asked_json : Transaction → List ℕ
asked_json (Bill b) = bill_json b
asked_json (Reverse v) = number_member (codes "rx") v.reference ++ text_member (codes "product") (digits_text 11 v.product)
asked_json (Faulty f) = reference_json f.reference

-- an answer with its authorization number
unfoldable pub numbered_json : List ℕ → ℕ → List ℕ
numbered_json answer number =
    said_member (codes "answer") answer ++ (named (codes "number") ++ (say "\"" ++ (digits_text 15 number ++ say "\"")))

unfoldable pub paid_json : List ℕ → Paid → List ℕ
paid_json answer p = numbered_json answer p.number ++ amounts_json p.pricing

unfoldable pub approved_json : Approved → List ℕ
approved_json a = numbered_json (codes "taken back") a.number ++ number_member (codes "total_paid") a.total_paid

-- the code of a decision, or each code of a transaction that can't be read
abbrev pub refusal_json : Transaction → ℕ → List ℕ → List Code → List ℕ
refusal_json (Bill b) nth request cs = decided_json cs
refusal_json (Reverse v) nth request cs = decided_json cs
refusal_json (Faulty f) nth request cs = codes_json request nth cs

unfoldable pub refused_json : Explanation → List ℕ → List Code → List ℕ
refused_json e request cs =
    said_member (codes "answer") (codes "refused") ++ refusal_json e.transaction e.at.nth request cs

abbrev pub answer_json : Answer → Explanation → List ℕ → List ℕ
answer_json (answer.Paid p) e request = paid_json (codes "paid") p
answer_json (answer.Twice p) e request = paid_json (codes "duplicate") p
answer_json (answer.Approved a) e request = approved_json a
answer_json (answer.Refused r) e request = refused_json e request r.codes

unfoldable pub header_json : Explanation → List ℕ → List ℕ
header_json e request =
    place_json e.at.place ++ (number_member (codes "nth") e.at.nth ++ (text_member (codes "pharmacy") e.provider
    ++ (day_member (codes "date") e.date ++ (asked_json e.transaction ++ (answer_json e.answer e request
    ++ said_member (codes "case") (case_name_of e.decision))))))

-- ---- what decided a billing that isn't paid

unfoldable pub coverage_json : Span → Span → List ℕ
coverage_json period coverage =
    day_member (codes "covered_first") coverage.first ++ (day_member (codes "covered_last") coverage.last
    ++ day_member (codes "period_last") period.last)

abbrev pub open_json : Option Civil → List ℕ
open_json None = say ",\"first_date\":null"
open_json (Some day) = day_member (codes "first_date") day

-- how few days of an earlier fill have passed
unfoldable pub passed_json : Figures → Explanation → Traced → List ℕ
passed_json figures e t =
    number_member (codes "days_passed") (days_between e.date t.row.key.date)
    ++ (number_member (codes "refill_percent") figures.refill_percent ++ open_json e.open_from)

abbrev pub soon_json : Figures → Explanation → Option Traced → List ℕ
soon_json figures e None = []
soon_json figures e (Some t) = passed_json figures e t

abbrev pub case_json : Decision → LotParts → Figures → Explanation → List ℕ
case_json decision.BeforePeriod lot figures e = day_member (codes "period_first") figures.period.first
case_json decision.AfterCreation lot figures e = day_member (codes "created") lot.created
case_json (decision.NotCovered m) lot figures e = coverage_json figures.period m.coverage
case_json decision.TooManyDays lot figures e = number_member (codes "most_days") figures.max_days
case_json decision.TooSoon lot figures e = soon_json figures e e.standing
case_json other lot figures e = []

-- ---- a standing claim

-- the transaction that was paid, where the claim is one of the batch
abbrev pub from_json : Source → List ℕ
from_json Opening = []
from_json (Record at) = at_member (codes "paid_by") at
from_json Elsewhere = []

abbrev pub end_json : Option At → List ℕ
end_json None = []
end_json (Some at) = at_member (codes "taken_back_by") at

unfoldable pub row_json : Row → List ℕ
row_json r =
    say "{\"pharmacy\":" ++ (quoted r.key.provider ++ (number_member (codes "rx") r.key.reference
    ++ (day_member (codes "date") r.key.date ++ (text_member (codes "family") r.family
    ++ (text_member (codes "person") r.person ++ (text_member (codes "product") (digits_text 11 r.product)
    ++ (number_member (codes "days") r.days ++ amounts_json r.pricing)))))))

unfoldable pub whole_json : Traced → List ℕ
whole_json t = row_json t.row ++ (from_json t.source ++ (end_json t.taken_back ++ say "}"))

-- of another pharmacy's claim the date and what counts
unfoldable pub elsewhere_json : Row → List ℕ
elsewhere_json r =
    say "{\"pharmacy\":null" ++ (day_member (codes "date") r.key.date
    ++ (number_member (codes "deductible") r.pricing.deductible
    ++ (number_member (codes "patient_pay") (patient_pay r.pricing) ++ say "}")))

abbrev pub claim_by : Source → Traced → List ℕ
claim_by Opening t = whole_json t
claim_by (Record at) t = whole_json t
claim_by Elsewhere t = elsewhere_json t.row

unfoldable pub traced_json : Traced → List ℕ
traced_json t = claim_by t.source t

unfoldable pub decider_json : Traced → List ℕ
decider_json t = named (codes "standing") ++ traced_json t

abbrev pub standing_json : Decision → Option Traced → List ℕ
standing_json c None = []
standing_json c (Some t) = decider_json (as_decided c t)

-- ---- the steps to the amounts of a claim that is paid

-- which field the charge is of
abbrev pub charge_json : Option ℕ → List ℕ
charge_json None = said_member (codes "charge_field") (codes "DU")
charge_json (Some cents) = said_member (codes "charge_field") (codes "DQ")

unfoldable pub price_json : Figures → BillParts → Workings → List ℕ
price_json figures b w =
    number_member (codes "submitted_cost") b.ingredient_cost ++ (number_member (codes "price_hundredths") w.payment.drug.price
    ++ (number_member (codes "submitted_fee") (unwrap_or b.dispensing_fee 0) ++ (number_member (codes "plan_fee") figures.fee
    ++ charge_json b.usual_charge)))

unfoldable pub family_left_json : ℕ → ℕ → ℕ → List ℕ
family_left_json figure used left =
    number_member (codes "family_deductible") figure ++ (number_member (codes "family_deductible_used") used
    ++ number_member (codes "family_deductible_left") left)

-- the family's deductible, where the plan has one
abbrev pub family_json : Option ℕ → Option ℕ → Workings → List ℕ
family_json (Some figure) (Some left) w = family_left_json figure w.payment.used.family_deductible left
family_json (Some figure) None w = []
family_json None left w = []

unfoldable pub accumulators_json : Figures → Workings → List ℕ
accumulators_json figures w =
    number_member (codes "member_deductible") figures.member_deductible
    ++ (number_member (codes "member_deductible_used") w.payment.used.deductible
    ++ (number_member (codes "deductible_left") w.deductible_left
    ++ (family_json figures.family_deductible w.family_deductible_left w
    ++ (number_member (codes "family_maximum") figures.family_maximum
    ++ (number_member (codes "family_maximum_used") w.payment.used.out_of_pocket
    ++ number_member (codes "family_maximum_left") w.room)))))

abbrev pub share_json : Share → List ℕ
share_json (Copay cents) = number_member (codes "tier_copay") cents
share_json (Percent percent) = number_member (codes "tier_percent") percent

-- the name of the tier in the plan sheet, where it has one
abbrev pub tier_json : Option (List ℕ) → List ℕ
tier_json None = []
tier_json (Some name) = text_member (codes "tier") name

-- what falls under the deductible and what is shared, before the family's maximum cuts them; the tier and its share
unfoldable pub due_json : Option (List ℕ) → Workings → List ℕ
due_json tier w =
    number_member (codes "deductible_due") w.under ++ (number_member (codes "share_due") w.share
    ++ (tier_json tier ++ share_json w.payment.drug.share))

unfoldable pub workings_json : Option (List ℕ) → Figures → Workings → List ℕ
workings_json tier figures w =
    number_member (codes "cost") w.cost ++ (number_member (codes "cost_before_charge") w.ingredient_cost
    ++ (number_member (codes "fee_before_charge") w.dispensing_fee
    ++ (number_member (codes "charge") w.cap ++ (accumulators_json figures w ++ due_json tier w))))

unfoldable pub counted_json : List Traced → List ℕ
counted_json ts = list_member (codes "counted") traced_json ts

unfoldable pub payable_json : Option (List ℕ) → Figures → Explanation → BillParts → Workings → List ℕ
payable_json tier figures e b w = price_json figures b w ++ (workings_json tier figures w ++ counted_json e.counted.items)

-- of a claim that is paid; nothing of another
abbrev pub figures_json : Option (List ℕ) → Transaction → Figures → Explanation → List ℕ
figures_json tier t figures e = if_paid (payable_json tier figures e) (paid_of t e.workings)

-- ---- the object

abbrev pub explanation_object : LotParts → Figures → Explanation → List ℕ → Option (List ℕ) → Option Compared → List ℕ
explanation_object lot figures e request tier c =
    header_json e request ++ (case_json e.decision lot figures e ++ (standing_json e.decision e.standing
    ++ (figures_json tier e.transaction figures e ++ (compared_json c ++ say "}\n"))))

-- a record whose header is rejected
abbrev pub rejection_object : ℕ → Rejected → List ℕ → Option Compared → List ℕ
rejection_object place r request c =
    place_json place ++ (bytes_member (codes "pharmacy") request 0 code.Provider
    ++ (bytes_member (codes "date") request 0 code.DateOfService
    ++ (said_member (codes "answer") (codes "header rejected") ++ (codes_json request 0 r.codes
    ++ (compared_json c ++ say "}\n")))))
