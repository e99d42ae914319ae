-- An explanation, written as JSON, is read as its value.
use Rattle.std.proofs.Common.{◌≡◌, ℕ, suc, pos, true, List, [], ◌∷◌, ◌++◌, map, Option, Some, None, codes, refl, ap, append_assoc}
use Rattle.std.specs.Fmt.{decimal}
use Rattle.std.specs.List.{flat_map}
use Rattle.std.specs.Option.{unwrap_or}
use Rattle.rx_d0_values.specs.Priced.{patient_pay, total_paid}
use Rattle.rx_d0_values.specs.declared.bill.BillParts.{BillParts}
use Rattle.rx_d0_values.specs.declared.pricing.Amounts.{Amounts}
use Rattle.rx_d0_values.specs.declared.reply.Answer.{Answer}
use Rattle.rx_d0_values.specs.declared.reply.Paid.{Paid}
use Rattle.rx_d0_values.specs.declared.reply.Answer.TheVariants as answer
use Rattle.rx_d0_values.specs.declared.transaction.Transaction.{Transaction}
use Rattle.rx_d0_values.specs.declared.transaction.Transaction.TheVariants.{Bill, Reverse, Faulty}
use Rattle.rx_d0_values.specs.declared.transmission.Rejected.{Rejected}
use Rattle.rx_explain.specs.declared.at.At.{At}
use Rattle.rx_explain.specs.declared.explanation.Explanation.{Explanation}
use Rattle.rx_explain.specs.declared.traced.Source.{Source}
use Rattle.rx_explain.specs.declared.traced.Source.TheVariants.{Opening, Record, Elsewhere}
use Rattle.rx_explain.specs.declared.traced.Traced.{Traced}
use Rattle.rx_explain.specs.declared.workings.Workings.{Workings}
use Rattle.rx_explain_text.proofs.JsonNames.{case_name, code_name, day_name, field_is, is_field, number_name, expected_name, words_are}
use Rattle.rx_explain_text.specs.Claims.{as_decided}
use Rattle.rx_explain_text.specs.ExplanationData as tree
use Rattle.rx_explain_text.specs.ExplanationData.{Member, count, day, text}
use Rattle.rx_explain_text.specs.Figures.{if_paid, paid_of}
use Rattle.rx_explain_text.specs.Json as json
use Rattle.rx_explain_text.specs.Json.{after_comma, between_commas, day_member, list_member, named, number_member}
use Rattle.rx_explain_text.specs.Json.{place_json, quoted, said_member, text_member}
use Rattle.rx_explain_text.specs.Reasons.{days_between}
use Rattle.rx_explain_text.specs.RequestField.{field_bytes, field_number}
use Rattle.rx_print.specs.Said.{said}
use Rattle.rx_explain_text.specs.Words.{case_name_of, name_of, expected_of}
use Rattle.rx_explain_text.specs.declared.compared.Compared.{Compared}
use Rattle.rx_explain_text.specs.declared.compared.Compared.TheVariants.{Same, Differs, Absent, OtherBatch}
use Rattle.rx_fields.specs.Calendar.{Civil}
use Rattle.rx_fields.specs.Codes.{code_text}
use Rattle.rx_fields.specs.Digits.{digits_text}
use Rattle.rx_fields.specs.Numbered.{LotParts, Span}
use Rattle.rx_fields.specs.declared.code.Code.{Code}
use Rattle.rx_fields.specs.declared.code.Code.TheVariants as code
use Rattle.rx_ledger.specs.declared.decision.Decision.{Decision}
use Rattle.rx_ledger.specs.declared.decision.Decision.TheVariants as decision
use Rattle.rx_ledger.specs.declared.drug.Share.{Share}
use Rattle.rx_ledger.specs.declared.drug.Share.TheVariants.{Copay, Percent}
use Rattle.rx_ledger.specs.declared.figures.Figures.{Figures}
use Rattle.rx_ledger.specs.declared.row.Row.{Row}
use Rattle.rx_print.proofs.JsonPieces.{AreMembers, Closes, IsText, Opens, array_is, closes, closes_after, closes_last}
use Rattle.rx_print.proofs.JsonPieces.{closes_line, each_item_is, item_is}
use Rattle.rx_print.proofs.JsonPieces.{member_is, members_are, members_at, named_is, no_items_are, no_members_are}
use Rattle.rx_print.proofs.JsonPieces.{null_text_is, number_text_is}
use Rattle.rx_print.proofs.JsonPieces.{object_is, opens, text_at, text_is}
use Rattle.rx_print.proofs.JsonWords.{is_name}
use Rattle.rx_print.specs.Dates.{dashed}
use Rattle.rx_print.specs.JsonData.{Value, Null, Number, Text, array, object}

-- ---- one member

value_is : (d : ℕ) (name s : List ℕ) (v : Value) → is_name name ≡ true → IsText d s v → AreMembers d (named name ++ s) ((name, v) ∷ [])
unfolding named said
value_is d name s v itself is =
    members_at d _ (44 ∷ 34 ∷ (name ++ (34 ∷ 58 ∷ s))) ((name, v) ∷ [])
    (ap (λ t. 44 ∷ 34 ∷ t) (append_assoc name (34 ∷ 58 ∷ []) s)) (named_is d name s v itself is)

number_is : (d : ℕ) (name : List ℕ) (n : ℕ) → is_name name ≡ true → AreMembers d (number_member name n) (count name n ∷ [])
unfolding number_member
number_is d name n itself = value_is d name (decimal n) (Number (pos n)) itself (number_text_is d (pos n))

quoted_is : (d : ℕ) (bytes : List ℕ) → IsText d (quoted bytes) (Text bytes)
unfolding quoted said
quoted_is d bytes = text_is d bytes

text_member_is : (d : ℕ) (name bytes : List ℕ) → is_name name ≡ true → AreMembers d (text_member name bytes) (text name bytes ∷ [])
unfolding text_member
text_member_is d name bytes itself = value_is d name (quoted bytes) (Text bytes) itself (quoted_is d bytes)

said_is : (d : ℕ) (name words : List ℕ) → is_name name ≡ true → is_name words ≡ true
    → AreMembers d (said_member name words) (text name words ∷ [])
unfolding said_member said
said_is d name words itself plain = value_is d name (34 ∷ (words ++ 34 ∷ [])) (Text words) itself (words_are d words plain)

day_is : (d : ℕ) (name : List ℕ) (on : Civil) → is_name name ≡ true → AreMembers d (day_member name on) (day name on ∷ [])
unfolding day_member said
day_is d name on itself = value_is d name (34 ∷ (dashed on ++ 34 ∷ [])) (Text (dashed on)) itself (words_are d (dashed on) (day_name on))

bytes_text_is : (d : ℕ) (o : Option (List ℕ)) → IsText d (json.bytes_json o) (tree.known_data o)
unfolding said
bytes_text_is d None = null_text_is d
bytes_text_is d (Some bytes) = quoted_is d bytes

bytes_is : (d : ℕ) (name request : List ℕ) (nth : ℕ) (c : Code) → is_name name ≡ true
    → AreMembers d (json.bytes_member name request nth c) (tree.bytes_data name request nth c ∷ [])
unfolding json.bytes_member
bytes_is d name request nth c itself =
    value_is d name _ (tree.known_data (field_bytes request nth c)) itself (bytes_text_is d (field_bytes request nth c))

-- ---- lists

list_apart : (s t : List ℕ) → 91 ∷ ((s ++ t) ++ 93 ∷ []) ≡ 91 ∷ (s ++ (t ++ 93 ∷ []))
list_apart s t = ap (λ u. 91 ∷ u) (append_assoc s t (93 ∷ []))

list_is : {T : Type 0} (d : ℕ) (item : T → List ℕ) (v : T → Value) → ((x : T) → IsText d (item x) (v x)) → (xs : List T)
    → IsText (suc d) (91 ∷ (between_commas item xs ++ 93 ∷ [])) (array (map v xs))
unfolding said
list_is d item v is [] = no_items_are d
list_is d item v is (x ∷ xs) =
    text_at (suc d) _ _ (array (map v (x ∷ xs))) (list_apart (item x) (flat_map (after_comma item) xs))
    (array_is d (item x) (flat_map (after_comma item) xs) (v x) (map v xs) (is x)
    (each_item_is d (after_comma item) v (λ y. item_is d (item y) (v y) (is y)) xs))

list_member_is : {T : Type 0} (d : ℕ) (name : List ℕ) (item : T → List ℕ) (v : T → Value) → is_name name ≡ true
    → ((x : T) → IsText d (item x) (v x)) → (xs : List T) → AreMembers (suc d) (list_member name item xs) ((name, array (map v xs)) ∷ [])
unfolding said
list_member_is d name item v itself is xs =
    value_is (suc d) name (91 ∷ (between_commas item xs ++ 93 ∷ [])) (array (map v xs)) itself (list_is d item v is xs)

-- ---- places

place_opens : (d place : ℕ) → Opens d (place_json place) (count (codes "place") place)
unfolding place_json said
place_opens d place =
    opens d _ (count (codes "place") place)
    (member_is d (codes "place") (decimal place) (Number (pos place)) refl (number_text_is d (pos place)))

at_is : (d : ℕ) (name : List ℕ) (at : At) → is_name name ≡ true
    → AreMembers (suc d) (json.at_member name at) ((name, tree.at_data at) ∷ [])
unfolding json.at_member said
at_is d name at itself =
    value_is (suc d) name _ (tree.at_data at) itself
    (object_is d (place_json at.place) _ (count (codes "place") at.place) (count (codes "nth") at.nth ∷ []) (place_opens d at.place)
    (closes_after d _ _ (_ ∷ []) [] (number_is d (codes "nth") at.nth refl) (closes d)))

compared_is : (d : ℕ) (c : Option Compared) → AreMembers d (json.compared_json c) (tree.compared_data c)
compared_is d None = no_members_are d
compared_is d (Some Same) = said_is d (codes "response") (codes "same") refl refl
compared_is d (Some Differs) = said_is d (codes "response") (codes "differs") refl refl
compared_is d (Some Absent) = said_is d (codes "response") (codes "absent") refl refl
compared_is d (Some (OtherBatch lot)) = said_is d (codes "response") (codes "other batch") refl refl

-- ---- codes

front_apart : (c : Code) (more : List ℕ)
    → json.front_json c ++ more ≡ (123 ∷ 34 ∷ (codes "code" ++ (34 ∷ 58 ∷ quoted (code_text c))))
    ++ (said_member (codes "name") (name_of c) ++ more)
unfolding json.front_json said
front_apart c more = simp append_assoc refl

-- an object that begins with a code and its name
code_object : (d : ℕ) (c : Code) (rest : List ℕ) (ms : List Member) → Closes d rest ms
    → IsText (suc d) (json.front_json c ++ rest) (object (tree.named_code c ++ ms))
code_object d c rest ms close =
    text_at (suc d) _ _ (object (tree.named_code c ++ ms)) (front_apart c rest)
    (object_is d _ _ (text (codes "code") (code_text c)) (text (codes "name") (name_of c) ∷ ms)
    (opens d _ _ (member_is d (codes "code") (quoted (code_text c)) (Text (code_text c)) refl (quoted_is d (code_text c))))
    (closes_after d _ _ (_ ∷ []) ms (said_is d (codes "name") (name_of c) refl (code_name c)) close))

decided_code_is : (d : ℕ) (c : Code) → IsText (suc d) (json.decided_code c) (tree.decided_code c)
unfolding json.decided_code said
decided_code_is d c = code_object d c (125 ∷ []) [] (closes d)

decided_is : (d : ℕ) (cs : List Code) → AreMembers (suc (suc d)) (json.decided_json cs) (tree.decided_data cs ∷ [])
unfolding json.decided_json
decided_is d cs = list_member_is (suc d) (codes "codes") json.decided_code tree.decided_code refl (decided_code_is d) cs

whole_part_is : (d : ℕ) (request : List ℕ) (nth : ℕ) (c : Code)
    → AreMembers d (json.whole_part request nth c) (tree.whole_part request nth c)
whole_part_is d request nth code.Syntax = bytes_is d (codes "bytes") request nth code.Syntax refl
whole_part_is d request nth other = no_members_are d

spoken_is : (d : ℕ) (request : List ℕ) (nth : ℕ) (c : Code) (o : Option (List ℕ)) → is_field o ≡ true
    → AreMembers d (json.field_json request nth c o) (tree.field_data request nth c o)
unfolding json.spoken_field
spoken_is d request nth c None h = whole_part_is d request nth c
spoken_is d request nth c (Some field) h =
    members_are d _ _ (_ ∷ []) (_ ∷ []) (said_is d (codes "field") field refl h) (bytes_is d (codes "bytes") request nth c refl)

read_code_is : (d : ℕ) (request : List ℕ) (nth : ℕ) (c : Code)
    → IsText (suc d) (json.code_json request nth c) (tree.read_code request nth c)
unfolding json.code_json said
read_code_is d request nth c =
    code_object d c _ (text (codes "expected") (expected_of c) ∷ tree.field_data request nth c (field_number c))
    (closes_after d _ _ (_ ∷ []) (tree.field_data request nth c (field_number c))
    (said_is d (codes "expected") (expected_of c) refl (expected_name c))
    (closes_field (field_number c) (field_is c)))
  where
    closes_field : (o : Option (List ℕ)) → is_field o ≡ true
        → Closes d (json.field_json request nth c o ++ 125 ∷ []) (tree.field_data request nth c o)
    closes_field o h = closes_last d _ (125 ∷ []) (tree.field_data request nth c o) (spoken_is d request nth c o h) (closes d)

codes_is : (d : ℕ) (request : List ℕ) (nth : ℕ) (cs : List Code)
    → AreMembers (suc (suc d)) (json.codes_json request nth cs) (tree.codes_data request nth cs ∷ [])
unfolding json.codes_json
codes_is d request nth cs =
    list_member_is (suc d) (codes "codes") (json.code_json request nth) (tree.read_code request nth) refl (read_code_is d request nth) cs

-- ---- what was asked, and what was answered

amounts_are : (d : ℕ) (a : Amounts) → AreMembers d (json.amounts_json a) (tree.amounts_data a)
unfolding json.amounts_json
amounts_are d a =
    members_are d _ _ (_ ∷ []) _ (number_is d (codes "ingredient_cost") a.ingredient_cost refl)
    (members_are d _ _ (_ ∷ []) _ (number_is d (codes "dispensing_fee") a.dispensing_fee refl)
    (members_are d _ _ (_ ∷ []) _ (number_is d (codes "deductible") a.deductible refl)
    (members_are d _ _ (_ ∷ []) _ (number_is d (codes "copay") a.copay refl)
    (members_are d _ _ (_ ∷ []) _ (number_is d (codes "coinsurance") a.coinsurance refl)
    (members_are d _ _ (_ ∷ []) (_ ∷ []) (number_is d (codes "patient_pay") (patient_pay a) refl)
    (number_is d (codes "total_paid") (total_paid a) refl))))))

bill_is : (d : ℕ) (b : BillParts) → AreMembers d (json.bill_json b) (tree.bill_data b)
unfolding json.bill_json
bill_is d b =
    members_are d _ _ (_ ∷ []) _ (number_is d (codes "rx") b.reference refl)
    (members_are d _ _ (_ ∷ []) _ (text_member_is d (codes "family") b.family refl)
    (members_are d _ _ (_ ∷ []) _ (text_member_is d (codes "person") b.person refl)
    (members_are d _ _ (_ ∷ []) _ (text_member_is d (codes "product") (digits_text 11 b.product) refl)
    (members_are d _ _ (_ ∷ []) (_ ∷ []) (number_is d (codes "quantity_thousandths") b.quantity refl)
    (number_is d (codes "days") b.days refl)))))

reference_is : (d : ℕ) (o : Option ℕ) → AreMembers d (json.reference_json o) (tree.reference_data o)
reference_is d None = no_members_are d
reference_is d (Some reference) = number_is d (codes "rx") reference refl

asked_is : (d : ℕ) (t : Transaction) → AreMembers d (json.asked_json t) (tree.asked_data t)
asked_is d (Bill b) = bill_is d b
asked_is d (Reverse v) =
    members_are d _ _ (_ ∷ []) (_ ∷ []) (number_is d (codes "rx") v.reference refl)
    (text_member_is d (codes "product") (digits_text 11 v.product) refl)
asked_is d (Faulty f) = reference_is d f.reference

numbered_is : (d : ℕ) (answer : List ℕ) (number : ℕ) → is_name answer ≡ true
    → AreMembers d (json.numbered_json answer number) (tree.numbered_data answer number)
unfolding json.numbered_json said
numbered_is d answer number h =
    members_are d _ _ (_ ∷ []) (_ ∷ []) (said_is d (codes "answer") answer refl h)
    (value_is d (codes "number") (34 ∷ (digits_text 15 number ++ 34 ∷ [])) (Text (digits_text 15 number)) refl
    (words_are d (digits_text 15 number) (number_name 15 number)))

paid_is : (d : ℕ) (answer : List ℕ) (p : Paid) → is_name answer ≡ true → AreMembers d (json.paid_json answer p) (tree.paid_data answer p)
unfolding json.paid_json
paid_is d answer p h =
    members_are d _ _ (tree.numbered_data answer p.number) (tree.amounts_data p.pricing) (numbered_is d answer p.number h)
    (amounts_are d p.pricing)

refusal_is : (d : ℕ) (t : Transaction) (nth : ℕ) (request : List ℕ) (cs : List Code)
    → AreMembers (suc (suc d)) (json.refusal_json t nth request cs) (tree.refusal_data t nth request cs ∷ [])
refusal_is d (Bill b) nth request cs = decided_is d cs
refusal_is d (Reverse v) nth request cs = decided_is d cs
refusal_is d (Faulty f) nth request cs = codes_is d request nth cs

answer_is : (d : ℕ) (a : Answer) (e : Explanation) (request : List ℕ)
    → AreMembers (suc (suc d)) (json.answer_json a e request) (tree.answer_data a e request)
unfolding json.approved_json json.refused_json
answer_is d (answer.Paid p) e request = paid_is (suc (suc d)) (codes "paid") p refl
answer_is d (answer.Twice p) e request = paid_is (suc (suc d)) (codes "duplicate") p refl
answer_is d (answer.Approved a) e request =
    members_are (suc (suc d)) _ _ (tree.numbered_data (codes "taken back") a.number) (_ ∷ [])
    (numbered_is (suc (suc d)) (codes "taken back") a.number refl) (number_is (suc (suc d)) (codes "total_paid") a.total_paid refl)
answer_is d (answer.Refused r) e request =
    members_are (suc (suc d)) _ _ (_ ∷ []) (_ ∷ []) (said_is (suc (suc d)) (codes "answer") (codes "refused") refl refl)
    (refusal_is d e.transaction e.at.nth request r.codes)

-- ---- what decided a billing that isn't paid

open_is : (d : ℕ) (o : Option Civil) → AreMembers d (json.open_json o) (tree.open_data o ∷ [])
unfolding said
open_is d None = named_is d (codes "first_date") _ _ refl (null_text_is d)
open_is d (Some on) = day_is d (codes "first_date") on refl

soon_is : (d : ℕ) (figures : Figures) (e : Explanation) (o : Option Traced)
    → AreMembers d (json.soon_json figures e o) (tree.soon_data figures e o)
unfolding json.passed_json
soon_is d figures e None = no_members_are d
soon_is d figures e (Some t) =
    members_are d _ _ (_ ∷ []) (_ ∷ _ ∷ []) (number_is d (codes "days_passed") (days_between e.date t.row.key.date) refl)
    (members_are d _ _ (_ ∷ []) (_ ∷ []) (number_is d (codes "refill_percent") figures.refill_percent refl) (open_is d e.open_from))

coverage_is : (d : ℕ) (period coverage : Span) → AreMembers d (json.coverage_json period coverage) (tree.coverage_data period coverage)
unfolding json.coverage_json
coverage_is d period coverage =
    members_are d _ _ (_ ∷ []) (_ ∷ _ ∷ []) (day_is d (codes "covered_first") coverage.first refl)
    (members_are d _ _ (_ ∷ []) (_ ∷ []) (day_is d (codes "covered_last") coverage.last refl)
    (day_is d (codes "period_last") period.last refl))

case_is : (d : ℕ) (c : Decision) (lot : LotParts) (figures : Figures) (e : Explanation)
    → AreMembers d (json.case_json c lot figures e) (tree.case_data c lot figures e)
case_is d decision.BeforePeriod lot figures e = day_is d (codes "period_first") figures.period.first refl
case_is d decision.AfterCreation lot figures e = day_is d (codes "created") lot.created refl
case_is d (decision.NotCovered m) lot figures e = coverage_is d figures.period m.coverage
case_is d decision.TooManyDays lot figures e = number_is d (codes "most_days") figures.max_days refl
case_is d decision.TooSoon lot figures e = soon_is d figures e e.standing
case_is d other lot figures e = no_members_are d

-- ---- a standing claim

from_is : (d : ℕ) (s : Source) → AreMembers (suc d) (json.from_json s) (tree.from_data s)
from_is d Opening = no_members_are (suc d)
from_is d (Record at) = at_is d (codes "paid_by") at refl
from_is d Elsewhere = no_members_are (suc d)

end_is : (d : ℕ) (o : Option At) → AreMembers (suc d) (json.end_json o) (tree.end_data o)
end_is d None = no_members_are (suc d)
end_is d (Some at) = at_is d (codes "taken_back_by") at refl

row_apart : (r : Row) (more : List ℕ)
    → json.row_json r ++ more ≡ (123 ∷ 34 ∷ (codes "pharmacy" ++ (34 ∷ 58 ∷ quoted r.key.provider)))
    ++ (number_member (codes "rx") r.key.reference ++ (day_member (codes "date") r.key.date
    ++ (text_member (codes "family") r.family ++ (text_member (codes "person") r.person
    ++ (text_member (codes "product") (digits_text 11 r.product) ++ (number_member (codes "days") r.days
    ++ (json.amounts_json r.pricing ++ more)))))))
unfolding json.row_json said
row_apart r more = simp append_assoc refl

row_closes : (d : ℕ) (r : Row) (rest : List ℕ) (ms : List Member) → Closes d rest ms
    → IsText (suc d) (json.row_json r ++ rest) (object (tree.row_data r ++ ms))
row_closes d r rest ms close =
    text_at (suc d) _ _ (object (tree.row_data r ++ ms)) (row_apart r rest)
    (object_is d _ _ (text (codes "pharmacy") r.key.provider) _
    (opens d _ _ (member_is d (codes "pharmacy") (quoted r.key.provider) (Text r.key.provider) refl (quoted_is d r.key.provider)))
    (closes_after d _ _ (_ ∷ []) _ (number_is d (codes "rx") r.key.reference refl)
    (closes_after d _ _ (_ ∷ []) _ (day_is d (codes "date") r.key.date refl)
    (closes_after d _ _ (_ ∷ []) _ (text_member_is d (codes "family") r.family refl)
    (closes_after d _ _ (_ ∷ []) _ (text_member_is d (codes "person") r.person refl)
    (closes_after d _ _ (_ ∷ []) _ (text_member_is d (codes "product") (digits_text 11 r.product) refl)
    (closes_after d _ _ (_ ∷ []) _ (number_is d (codes "days") r.days refl)
    (closes_after d _ _ (tree.amounts_data r.pricing) ms (amounts_are d r.pricing) close))))))))

whole_is : (d : ℕ) (t : Traced) → IsText (suc (suc d)) (json.whole_json t) (tree.whole_data t)
unfolding json.whole_json said
whole_is d t =
    row_closes (suc d) t.row _ (tree.from_data t.source ++ tree.end_data t.taken_back)
    (closes_after (suc d) _ _ (tree.from_data t.source) (tree.end_data t.taken_back) (from_is d t.source)
    (closes_last (suc d) _ _ (tree.end_data t.taken_back) (end_is d t.taken_back) (closes (suc d))))

elsewhere_apart : (r : Row)
    → json.elsewhere_json r ≡ (123 ∷ 34 ∷ (codes "pharmacy" ++ (34 ∷ 58 ∷ codes "null")))
    ++ (day_member (codes "date") r.key.date ++ (number_member (codes "deductible") r.pricing.deductible
    ++ (number_member (codes "patient_pay") (patient_pay r.pricing) ++ 125 ∷ [])))
unfolding json.elsewhere_json said
elsewhere_apart r = refl

elsewhere_is : (d : ℕ) (r : Row) → IsText (suc d) (json.elsewhere_json r) (tree.elsewhere_data r)
elsewhere_is d r =
    text_at (suc d) _ _ (tree.elsewhere_data r) (elsewhere_apart r)
    (object_is d _ _ (codes "pharmacy", Null) _ (opens d _ _ (member_is d (codes "pharmacy") (codes "null") Null refl (null_text_is d)))
    (closes_after d _ _ (_ ∷ []) _ (day_is d (codes "date") r.key.date refl)
    (closes_after d _ _ (_ ∷ []) _ (number_is d (codes "deductible") r.pricing.deductible refl)
    (closes_after d _ _ (_ ∷ []) [] (number_is d (codes "patient_pay") (patient_pay r.pricing) refl) (closes d)))))

claim_is : (d : ℕ) (s : Source) (t : Traced) → IsText (suc (suc d)) (json.claim_by s t) (tree.claim_by s t)
claim_is d Opening t = whole_is d t
claim_is d (Record at) t = whole_is d t
claim_is d Elsewhere t = elsewhere_is (suc d) t.row

traced_is : (d : ℕ) (t : Traced) → IsText (suc (suc d)) (json.traced_json t) (tree.traced_data t)
unfolding json.traced_json
traced_is d t = claim_is d t.source t

standing_is : (d : ℕ) (c : Decision) (o : Option Traced) → AreMembers (suc (suc d)) (json.standing_json c o) (tree.standing_data c o)
unfolding json.decider_json
standing_is d c None = no_members_are (suc (suc d))
standing_is d c (Some t) =
    value_is (suc (suc d)) (codes "standing") _ (tree.traced_data (as_decided c t)) refl (traced_is d (as_decided c t))

-- ---- the steps to the amounts of a claim that is paid

charge_is : (d : ℕ) (o : Option ℕ) → AreMembers d (json.charge_json o) (text (codes "charge_field") (tree.charge_field o) ∷ [])
charge_is d None = said_is d (codes "charge_field") (codes "DU") refl refl
charge_is d (Some cents) = said_is d (codes "charge_field") (codes "DQ") refl refl

price_is : (d : ℕ) (figures : Figures) (b : BillParts) (w : Workings)
    → AreMembers d (json.price_json figures b w) (tree.price_data figures b w)
unfolding json.price_json
price_is d figures b w =
    members_are d _ _ (_ ∷ []) _ (number_is d (codes "submitted_cost") b.ingredient_cost refl)
    (members_are d _ _ (_ ∷ []) _ (number_is d (codes "price_hundredths") w.payment.drug.price refl)
    (members_are d _ _ (_ ∷ []) _ (number_is d (codes "submitted_fee") (unwrap_or b.dispensing_fee 0) refl)
    (members_are d _ _ (_ ∷ []) (_ ∷ []) (number_is d (codes "plan_fee") figures.fee refl) (charge_is d b.usual_charge))))

family_is : (d : ℕ) (o left : Option ℕ) (w : Workings) → AreMembers d (json.family_json o left w) (tree.family_data o left w)
unfolding json.family_left_json
family_is d (Some figure) (Some left) w =
    members_are d _ _ (_ ∷ []) (_ ∷ _ ∷ []) (number_is d (codes "family_deductible") figure refl)
    (members_are d _ _ (_ ∷ []) (_ ∷ []) (number_is d (codes "family_deductible_used") w.payment.used.family_deductible refl)
    (number_is d (codes "family_deductible_left") left refl))
family_is d (Some figure) None w = no_members_are d
family_is d None left w = no_members_are d

accumulators_are : (d : ℕ) (figures : Figures) (w : Workings)
    → AreMembers d (json.accumulators_json figures w) (tree.accumulators_data figures w)
unfolding json.accumulators_json
accumulators_are d figures w =
    members_are d _ _ (_ ∷ []) _ (number_is d (codes "member_deductible") figures.member_deductible refl)
    (members_are d _ _ (_ ∷ []) _ (number_is d (codes "member_deductible_used") w.payment.used.deductible refl)
    (members_are d _ _ (_ ∷ []) _ (number_is d (codes "deductible_left") w.deductible_left refl)
    (members_are d _ _ (tree.family_data figures.family_deductible w.family_deductible_left w) (_ ∷ _ ∷ _ ∷ [])
    (family_is d figures.family_deductible w.family_deductible_left w)
    (members_are d _ _ (_ ∷ []) (_ ∷ _ ∷ []) (number_is d (codes "family_maximum") figures.family_maximum refl)
    (members_are d _ _ (_ ∷ []) (_ ∷ []) (number_is d (codes "family_maximum_used") w.payment.used.out_of_pocket refl)
    (number_is d (codes "family_maximum_left") w.room refl))))))

share_is : (d : ℕ) (s : Share) → AreMembers d (json.share_json s) (tree.share_data s ∷ [])
share_is d (Copay cents) = number_is d (codes "tier_copay") cents refl
share_is d (Percent percent) = number_is d (codes "tier_percent") percent refl

tier_is : (d : ℕ) (tier : Option (List ℕ)) → AreMembers d (json.tier_json tier) (tree.tier_data tier)
tier_is d None = no_members_are d
tier_is d (Some name) = text_member_is d (codes "tier") name refl

due_is : (d : ℕ) (tier : Option (List ℕ)) (w : Workings) → AreMembers d (json.due_json tier w) (tree.due_data tier w)
unfolding json.due_json
due_is d tier w =
    members_are d _ _ (_ ∷ []) _ (number_is d (codes "deductible_due") w.under refl)
    (members_are d _ _ (_ ∷ []) _ (number_is d (codes "share_due") w.share refl)
    (members_are d _ _ (tree.tier_data tier) (_ ∷ []) (tier_is d tier) (share_is d w.payment.drug.share)))

workings_are : (d : ℕ) (tier : Option (List ℕ)) (figures : Figures) (w : Workings)
    → AreMembers d (json.workings_json tier figures w) (tree.workings_data tier figures w)
unfolding json.workings_json
workings_are d tier figures w =
    members_are d _ _ (_ ∷ []) _ (number_is d (codes "cost") w.cost refl)
    (members_are d _ _ (_ ∷ []) _ (number_is d (codes "cost_before_charge") w.ingredient_cost refl)
    (members_are d _ _ (_ ∷ []) _ (number_is d (codes "fee_before_charge") w.dispensing_fee refl)
    (members_are d _ _ (_ ∷ []) _ (number_is d (codes "charge") w.cap refl)
    (members_are d _ _ (tree.accumulators_data figures w) (tree.due_data tier w) (accumulators_are d figures w) (due_is d tier w)))))

payable_is : (d : ℕ) (tier : Option (List ℕ)) (figures : Figures) (e : Explanation) (b : BillParts) (w : Workings)
    → AreMembers (suc (suc (suc d))) (json.payable_json tier figures e b w) (tree.payable_data tier figures e b w)
unfolding json.payable_json json.counted_json
payable_is d tier figures e b w =
    members_are _ _ _ (tree.price_data figures b w) _ (price_is _ figures b w)
    (members_are _ _ _ (tree.workings_data tier figures w) (_ ∷ []) (workings_are _ tier figures w)
    (list_member_is (suc (suc d)) (codes "counted") json.traced_json tree.traced_data refl (traced_is d) e.counted.items))

figures_are : (d : ℕ) (tier : Option (List ℕ)) (figures : Figures) (e : Explanation) (o : Option (BillParts × Workings))
    → AreMembers (suc (suc (suc d))) (if_paid (json.payable_json tier figures e) o) (tree.figures_data tier figures e o)
figures_are d tier figures e None = no_members_are _
figures_are d tier figures e (Some p) = payable_is d tier figures e p.0 p.1

-- ---- the object

header_apart : (e : Explanation) (request more : List ℕ)
    → json.header_json e request ++ more ≡ place_json e.at.place ++ ((number_member (codes "nth") e.at.nth
    ++ (text_member (codes "pharmacy") e.provider ++ (day_member (codes "date") e.date ++ (json.asked_json e.transaction
    ++ (json.answer_json e.answer e request ++ said_member (codes "case") (case_name_of e.decision)))))) ++ more)
unfolding json.header_json
header_apart e request more = append_assoc (place_json e.at.place) _ more

header_is : (e : Explanation) (request : List ℕ)
    → AreMembers 3 (number_member (codes "nth") e.at.nth ++ (text_member (codes "pharmacy") e.provider
    ++ (day_member (codes "date") e.date ++ (json.asked_json e.transaction ++ (json.answer_json e.answer e request
    ++ said_member (codes "case") (case_name_of e.decision)))))) (tree.header_data e request)
header_is e request =
    members_are 3 _ _ (_ ∷ []) _ (number_is 3 (codes "nth") e.at.nth refl)
    (members_are 3 _ _ (_ ∷ []) _ (text_member_is 3 (codes "pharmacy") e.provider refl)
    (members_are 3 _ _ (_ ∷ []) _ (day_is 3 (codes "date") e.date refl)
    (members_are 3 _ _ (tree.asked_data e.transaction) _ (asked_is 3 e.transaction)
    (members_are 3 _ _ (tree.answer_data e.answer e request) (_ ∷ []) (answer_is 1 e.answer e request)
    (said_is 3 (codes "case") (case_name_of e.decision) refl (case_name e.decision))))))

pub explanation_is : (lot : LotParts) (figures : Figures) (e : Explanation) (request : List ℕ) (tier : Option (List ℕ))
    (c : Option Compared)
    → IsText 4 (json.explanation_object lot figures e request tier c) (tree.explanation_data lot figures e request tier c)
unfolding said
explanation_is lot figures e request tier c =
    text_at 4 _ _ (tree.explanation_data lot figures e request tier c) (header_apart e request _)
    (object_is 3 (place_json e.at.place) _ (count (codes "place") e.at.place) _ (place_opens 3 e.at.place)
    (closes_after 3 _ _ (tree.header_data e request) _ (header_is e request)
    (closes_after 3 _ _ (tree.case_data e.decision lot figures e) _ (case_is 3 e.decision lot figures e)
    (closes_after 3 _ _ (tree.standing_data e.decision e.standing) _ (standing_is 1 e.decision e.standing)
    (closes_after 3 _ _ (tree.figures_data tier figures e (paid_of e.transaction e.workings)) _
    (figures_are 0 tier figures e (paid_of e.transaction e.workings))
    (closes_last 3 _ _ (tree.compared_data c) (compared_is 3 c) (closes_line 3)))))))

pub rejection_is : (place : ℕ) (r : Rejected) (request : List ℕ) (c : Option Compared)
    → IsText 4 (json.rejection_object place r request c) (tree.rejection_data place r request c)
unfolding said
rejection_is place r request c =
    object_is 3 (place_json place) _ (count (codes "place") place) _ (place_opens 3 place)
    (closes_after 3 _ _ (_ ∷ []) _ (bytes_is 3 (codes "pharmacy") request 0 code.Provider refl)
    (closes_after 3 _ _ (_ ∷ []) _ (bytes_is 3 (codes "date") request 0 code.DateOfService refl)
    (closes_after 3 _ _ (_ ∷ []) _ (said_is 3 (codes "answer") (codes "header rejected") refl refl)
    (closes_after 3 _ _ (_ ∷ []) _ (codes_is 1 request 0 r.codes)
    (closes_last 3 _ _ (tree.compared_data c) (compared_is 3 c) (closes_line 3))))))
