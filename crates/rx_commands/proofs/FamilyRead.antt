-- A family, written as JSON, is read as its value.
use Rattle.std.proofs.Common.{◌≡◌, ℕ, suc, pos, ◌+◌, ◌^◌, ◌<◌, Bool, true, false, ◌==◌, if◌then◌else◌, List, [], ◌∷◌, ◌++◌}
use Rattle.std.proofs.Common.{length, Option, Some, None, codes, refl, ap, ◌∙◌, arith, append_assoc, FitsSigned, map}
use Rattle.std.proofs.lemmas.Bool.{ne_eqb}
use Rattle.std.proofs.lemmas.Fmt.{decimal_is_IsNumeral_wide}
use Rattle.std.specs.Fmt.{decimal}
use Rattle.std.specs.Int.{w128}
use Rattle.std.specs.List.{enumerate_from, flat_map}
use Rattle.json.specs.Lex.{lex}
use Rattle.rx_d0_values.specs.Priced.{allowed, patient_pay, total_paid}
use Rattle.rx_fields.specs.Calendar.{Civil, date_text}
use Rattle.rx_fields.specs.Digits.{digits_text}
use Rattle.rx_ledger.specs.declared.row.Row.{Row}
use Rattle.rx_print.proofs.JsonPieces.{AreMembers, IsMember, IsText, array_is, closes, closes_after, closes_last, closes_line}
use Rattle.rx_print.proofs.JsonPieces.{each_item_is, each_member_is, item_is, line_begins, member_is, named_is}
use Rattle.rx_print.proofs.JsonPieces.{no_items_are, null_text_is, number_text_is, object_is, one_member_is, opens, text_at, text_is}
use Rattle.rx_print.proofs.JsonWords.{is_name}
use Rattle.rx_print.specs.Dates.{dashed}
use Rattle.rx_print.specs.JsonData.{Value, Null, Number, Text, array}
use Rattle.rx_report.specs.LinesData.{count_data, known_data, text_data}
use Rattle.rx_commands.specs.declared.family.cells.Column.{Column}
use Rattle.rx_commands.specs.declared.family.cells.Column.TheVariants as column
use Rattle.rx_commands.specs.declared.family.families.Family.{Family}
use Rattle.rx_commands.specs.declared.family.families.FamilyMember.{FamilyMember}
use Rattle.rx_commands.specs.declared.family.families.Total.{Total}
use Rattle.rx_commands.specs.declared.family.sums.Claim.{Claim}
use Rattle.rx_commands.specs.FamilyCells.{left_cell, others, reached_cell}
use Rattle.rx_commands.specs.FamilyData.{claim_data, day_data, family_data, member_data, reached_data, total_data}
use Rattle.rx_commands.specs.FamilyTables.{claim_json, claims_json, comma_after, comma_member, day_json, family_json, head_json}
use Rattle.rx_commands.specs.FamilyTables.{json_member, left_json, member_json, members_json, reached_json, span_json, total_json, totals_json}
use Rattle.rx_report.specs.Texts.{quoted}

-- ---- cells: null where they are blank

abbrev number_cell : List ℕ → List ℕ
number_cell text = if length text == 0 then codes "null" else text

some_digit : (n : ℕ) → n < 10 ^ 64 → (length (decimal n) == 0) ≡ false
some_digit n h = let some = (decimal_is_IsNumeral_wide n h).0.0 in ne_eqb (length (decimal n)) 0 (λ e. omega arith)

not_blank : (n : ℕ) → FitsSigned w128 (pos n) → number_cell (decimal n) ≡ decimal n
not_blank n h = rw (some_digit n (let small = h.sfits in omega arith)) refl

number_cell_is : (d n : ℕ) → IsText d (number_cell (decimal n)) (count_data n)
number_cell_is d n = record {
  lexed = λ fits.
      (text_at d (number_cell (decimal n)) (decimal n) (Number (pos n)) (not_blank n fits) (number_text_is d (pos n))).lexed fits;
  shallow = omega arith;
}

left_cell_is : (d : ℕ) (o : Option ℕ) → IsText d (number_cell (left_cell o)) (known_data o)
left_cell_is d None = null_text_is d
left_cell_is d (Some n) = number_cell_is d n

abbrev text_cell : List ℕ → List ℕ
text_cell text = if length text == 0 then codes "null" else quoted text

text_cell_is : (d : ℕ) (text : List ℕ) → IsText d (text_cell text) (text_data text)
text_cell_is d text = at (length text == 0)
  where
    at : (blank : Bool) → IsText d (if blank then codes "null" else quoted text) (if blank then Null else Text text)
    at true = null_text_is d
    at false = text_is d text

-- ---- a claim

abbrev column_data : Claim → Column → List ℕ × Value
column_data c column.Date = (codes "date", text_data (date_text c.row.key.date))
column_data c column.Person = (codes "person", text_data c.row.person)
column_data c column.Prescription = (codes "prescription", count_data c.row.key.reference)
column_data c column.Provider = (codes "provider", text_data c.row.key.provider)
column_data c column.Product = (codes "product", text_data (digits_text 11 c.row.product))
column_data c column.Quantity = (codes "quantity", count_data c.row.quantity)
column_data c column.Days = (codes "days", count_data c.row.days)
column_data c column.Allowed = (codes "allowed", count_data (allowed c.row.pricing))
column_data c column.Deductible = (codes "deductible", count_data c.row.pricing.deductible)
column_data c column.Copay = (codes "copay", count_data c.row.pricing.copay)
column_data c column.Coinsurance = (codes "coinsurance", count_data c.row.pricing.coinsurance)
column_data c column.MemberPays = (codes "member_pays", count_data (patient_pay c.row.pricing))
column_data c column.PlanPays = (codes "plan_pays", count_data (total_paid c.row.pricing))
column_data c column.Authorization = (codes "authorization", text_data (digits_text 15 c.row.number))
column_data c column.DeductibleSum = (codes "deductible_sum", count_data c.deductible.sum)
column_data c column.FamilyDeductibleSum = (codes "family_deductible_sum", count_data c.family_deductible.sum)
column_data c column.OutOfPocketSum = (codes "out_of_pocket_sum", count_data c.out_of_pocket.sum)
column_data c column.DeductibleLeft = (codes "deductible_left", known_data c.deductible.left)
column_data c column.FamilyDeductibleLeft = (codes "family_deductible_left", known_data c.family_deductible.left)
column_data c column.OutOfPocketLeft = (codes "out_of_pocket_left", known_data c.out_of_pocket.left)
column_data c column.Reached = (codes "reached", text_data (reached_cell c))

column_is : (d : ℕ) (c : Claim) (at : Column) → IsMember d (json_member c at) (column_data c at)
column_is d c column.Date = member_is d (codes "date") _ _ refl (text_cell_is d (date_text c.row.key.date))
column_is d c column.Person = member_is d (codes "person") _ _ refl (text_cell_is d c.row.person)
column_is d c column.Prescription = member_is d (codes "prescription") _ _ refl (number_cell_is d c.row.key.reference)
column_is d c column.Provider = member_is d (codes "provider") _ _ refl (text_cell_is d c.row.key.provider)
column_is d c column.Product = member_is d (codes "product") _ _ refl (text_cell_is d (digits_text 11 c.row.product))
column_is d c column.Quantity = member_is d (codes "quantity") _ _ refl (number_cell_is d c.row.quantity)
column_is d c column.Days = member_is d (codes "days") _ _ refl (number_cell_is d c.row.days)
column_is d c column.Allowed = member_is d (codes "allowed") _ _ refl (number_cell_is d (allowed c.row.pricing))
column_is d c column.Deductible = member_is d (codes "deductible") _ _ refl (number_cell_is d c.row.pricing.deductible)
column_is d c column.Copay = member_is d (codes "copay") _ _ refl (number_cell_is d c.row.pricing.copay)
column_is d c column.Coinsurance = member_is d (codes "coinsurance") _ _ refl (number_cell_is d c.row.pricing.coinsurance)
column_is d c column.MemberPays = member_is d (codes "member_pays") _ _ refl (number_cell_is d (patient_pay c.row.pricing))
column_is d c column.PlanPays = member_is d (codes "plan_pays") _ _ refl (number_cell_is d (total_paid c.row.pricing))
column_is d c column.Authorization = member_is d (codes "authorization") _ _ refl (text_cell_is d (digits_text 15 c.row.number))
column_is d c column.DeductibleSum = member_is d (codes "deductible_sum") _ _ refl (number_cell_is d c.deductible.sum)
column_is d c column.FamilyDeductibleSum =
    member_is d (codes "family_deductible_sum") _ _ refl (number_cell_is d c.family_deductible.sum)
column_is d c column.OutOfPocketSum = member_is d (codes "out_of_pocket_sum") _ _ refl (number_cell_is d c.out_of_pocket.sum)
column_is d c column.DeductibleLeft = member_is d (codes "deductible_left") _ _ refl (left_cell_is d c.deductible.left)
column_is d c column.FamilyDeductibleLeft =
    member_is d (codes "family_deductible_left") _ _ refl (left_cell_is d c.family_deductible.left)
column_is d c column.OutOfPocketLeft = member_is d (codes "out_of_pocket_left") _ _ refl (left_cell_is d c.out_of_pocket.left)
column_is d c column.Reached = member_is d (codes "reached") _ _ refl (text_cell_is d (reached_cell c))

others_are : (d : ℕ) (c : Claim) → AreMembers d (flat_map (comma_member c) others) (map (column_data c) others)
others_are d c =
    each_member_is d (comma_member c) (column_data c)
    (λ at. one_member_is d (json_member c at) (column_data c at) (column_is d c at)) others

abbrev claim_object : Claim → List ℕ
claim_object c = 123 ∷ (json_member c column.Date ++ (flat_map (comma_member c) others ++ 125 ∷ []))

claim_is : (d : ℕ) (c : Claim) → IsText (suc d) (claim_object c) (claim_data c)
claim_is d c =
    object_is d (123 ∷ json_member c column.Date) (flat_map (comma_member c) others ++ 125 ∷ []) (column_data c column.Date)
    (map (column_data c) others) (opens d _ _ (column_is d c column.Date)) (closes_after d _ _ _ [] (others_are d c) (closes d))

-- ---- sums and days

left_is : (d : ℕ) (o : Option ℕ) → IsText d (left_json o) (known_data o)
left_is d None = null_text_is d
left_is d (Some n) = number_text_is d (pos n)

reached_is : (d : ℕ) (o : Option Row) → IsText d (reached_json o) (reached_data o)
reached_is d None = null_text_is d
reached_is d (Some r) = text_is d (digits_text 15 r.number)

day_is : (d : ℕ) (name : List ℕ) (day : Civil) → is_name name ≡ true
    → AreMembers d (44 ∷ 34 ∷ (name ++ (34 ∷ 58 ∷ day_json day))) ((name, day_data day) ∷ [])
day_is d name day itself = named_is d name (day_json day) (day_data day) itself (text_is d (dashed day))

total_is : (d : ℕ) (t : Total) → IsText (suc d) (total_json t) (total_data t)
unfolding total_json
total_is d t =
    object_is d (codes "{\"sum\":" ++ decimal t.sum) _ (codes "sum", count_data t.sum) (_ ∷ _ ∷ [])
    (opens d _ _ (member_is d (codes "sum") (decimal t.sum) (count_data t.sum) refl (number_text_is d (pos t.sum))))
    (closes_after d (codes ",\"left\":" ++ left_json t.left) _ (_ ∷ []) (_ ∷ [])
    (named_is d (codes "left") (left_json t.left) (known_data t.left) refl (left_is d t.left))
    (closes_last d (codes ",\"reached\":" ++ reached_json t.reached) _ (_ ∷ [])
    (named_is d (codes "reached") (reached_json t.reached) (reached_data t.reached) refl (reached_is d t.reached)) (closes d)))

-- ---- a member

abbrev member_object : FamilyMember → List ℕ
member_object m =
    codes "{\"person\":" ++ (quoted m.member.key.person ++ (codes "," ++ (span_json m.member.coverage
    ++ (codes ",\"deductible\":" ++ (total_json m.deductible ++ codes "}")))))

span_apart : (s first last t : List ℕ)
    → codes "{\"person\":" ++ (s ++ (codes "," ++ ((codes "\"first\":" ++ (first ++ (codes ",\"last\":" ++ last))) ++ t)))
    ≡ (codes "{\"person\":" ++ s) ++ ((codes ",\"first\":" ++ first) ++ ((codes ",\"last\":" ++ last) ++ t))
span_apart s first last t = simp append_assoc refl

shown_is : (d : ℕ) (m : FamilyMember) → IsText (suc (suc d)) (member_object m) (member_data m)
unfolding span_json
shown_is d m =
    let person = m.member.key.person in
    let span = m.member.coverage in
    let e = suc d in
    text_at (suc e) (member_object m) _ (member_data m) (span_apart (quoted person) (day_json span.first) (day_json span.last) _)
    (object_is e (codes "{\"person\":" ++ quoted person) _ (codes "person", Text person) (_ ∷ _ ∷ _ ∷ [])
    (opens e _ _ (member_is e (codes "person") (quoted person) (Text person) refl (text_is e person)))
    (closes_after e _ _ (_ ∷ []) (_ ∷ _ ∷ []) (day_is e (codes "first") span.first refl)
    (closes_after e _ _ (_ ∷ []) (_ ∷ []) (day_is e (codes "last") span.last refl)
    (closes_last e (codes ",\"deductible\":" ++ total_json m.deductible) _ (_ ∷ [])
    (named_is e (codes "deductible") (total_json m.deductible) (total_data m.deductible) refl (total_is d m.deductible))
    (closes e)))))

-- ---- lists: each item on a line of its own, with a comma before all but the first

module _ {T : Type 0} (text : T → List ℕ) where
  abbrev numbered : List (ℕ × T) → List ℕ
  numbered xs = flat_map (λ x. comma_after x.0 ++ text x.1) xs

  abbrev after_comma : T → List ℕ
  after_comma x = 44 ∷ 10 ∷ text x

  later : (n : ℕ) (xs : List T) → numbered (enumerate_from (n + 1) xs) ≡ flat_map after_comma xs
  later n [] = refl
  later n (x ∷ xs) =
      let more = later (n + 1) xs in
      rw (ne_eqb (n + 1) 0 (λ e. omega arith)) (ap (λ t. (44 ∷ 10 ∷ text x) ++ t) more)

  list_is : (d : ℕ) (v : T → Value) → ((x : T) → IsText d (text x) (v x)) → (xs : List T)
      → IsText (suc d) (91 ∷ (numbered (enumerate_from 0 xs) ++ 93 ∷ [])) (array (map v xs))
  list_is d v is [] = no_items_are d
  list_is d v is (x ∷ xs) =
      text_at (suc d) _ _ (array (map v (x ∷ xs)))
      (ap (λ t. 91 ∷ ((text x ++ t) ++ 93 ∷ [])) (later 0 xs)
      ∙ ap (λ t. 91 ∷ t) (append_assoc (text x) (flat_map after_comma xs) (93 ∷ [])))
      (array_is d (text x) (flat_map after_comma xs) (v x) (map v xs) (is x)
      (each_item_is d after_comma v (λ y. item_is d (10 ∷ text y) (v y) (line_begins d (text y) (v y) (is y))) xs))

members_list_is : (d : ℕ) (ms : List FamilyMember)
    → IsText (suc (suc (suc d))) (91 ∷ (members_json (enumerate_from 0 ms) ++ 93 ∷ [])) (array (map member_data ms))
unfolding member_json
members_list_is d ms = list_is member_object (suc (suc d)) member_data (shown_is d) ms

claims_list_is : (d : ℕ) (cs : List Claim)
    → IsText (suc (suc d)) (91 ∷ (claims_json (enumerate_from 0 cs) ++ 93 ∷ [])) (array (map claim_data cs))
unfolding claim_json
claims_list_is d cs = list_is claim_object (suc d) claim_data (claim_is d) cs

-- ---- the whole

-- a member on a line of its own
line_is : (d : ℕ) (name text : List ℕ) (v : Value) → is_name name ≡ true → IsText d text v
    → AreMembers d (44 ∷ 10 ∷ 34 ∷ (name ++ (34 ∷ 58 ∷ text))) ((name, v) ∷ [])
unfolding lex
line_is d name text v itself is =
    let one = member_is d name text v itself is in
    one_member_is d (10 ∷ 34 ∷ (name ++ (34 ∷ 58 ∷ text))) (name, v)
    (record { lexed = λ fits rest h. one.lexed fits rest h; shallow = one.shallow })

whole_apart : (id first last ms d o cs : List ℕ)
    → (codes "{\"family\":" ++ (id ++ (codes "," ++ (codes "\"first\":" ++ (first ++ (codes ",\"last\":" ++ last))))))
    ++ (codes ",\n\"members\":[" ++ (ms ++ (codes "],\n" ++ ((codes "\"family_deductible\":" ++ (d ++ (codes ",\n\"out_of_pocket\":" ++ o)))
    ++ (codes ",\n\"claims\":[" ++ (cs ++ codes "]}\n"))))))
    ≡ (codes "{\"family\":" ++ id) ++ ((codes ",\"first\":" ++ first) ++ ((codes ",\"last\":" ++ last)
    ++ ((codes ",\n\"members\":[" ++ (ms ++ codes "]")) ++ ((codes ",\n\"family_deductible\":" ++ d)
    ++ ((codes ",\n\"out_of_pocket\":" ++ o) ++ ((codes ",\n\"claims\":[" ++ (cs ++ codes "]")) ++ codes "}\n"))))))
whole_apart id first last ms d o cs = simp append_assoc refl

pub family_is : (f : Family) → IsText 4 (family_json f) (family_data f)
unfolding family_json head_json totals_json span_json
family_is f =
    let span = f.period in
    text_at 4 (family_json f) _ (family_data f)
    (whole_apart (quoted f.id) (day_json span.first) (day_json span.last) (members_json (enumerate_from 0 f.members.items))
    (total_json f.deductible) (total_json f.out_of_pocket) (claims_json (enumerate_from 0 f.claims.items)))
    (object_is 3 (codes "{\"family\":" ++ quoted f.id) _ (codes "family", Text f.id) (_ ∷ _ ∷ _ ∷ _ ∷ _ ∷ _ ∷ [])
    (opens 3 _ _ (member_is 3 (codes "family") (quoted f.id) (Text f.id) refl (text_is 3 f.id)))
    (closes_after 3 _ _ (_ ∷ []) _ (day_is 3 (codes "first") span.first refl)
    (closes_after 3 _ _ (_ ∷ []) _ (day_is 3 (codes "last") span.last refl)
    (closes_after 3 _ _ (_ ∷ []) _ (line_is 3 (codes "members") _ _ refl (members_list_is 0 f.members.items))
    (closes_after 3 _ _ (_ ∷ []) _ (line_is 3 (codes "family_deductible") _ _ refl (total_is 2 f.deductible))
    (closes_after 3 _ _ (_ ∷ []) _ (line_is 3 (codes "out_of_pocket") _ _ refl (total_is 2 f.out_of_pocket))
    (closes_last 3 _ _ (_ ∷ []) (line_is 3 (codes "claims") _ _ refl (claims_list_is 1 f.claims.items)) (closes_line 3))))))))
