-- The lines of a report, written as JSON, are read as their values.
use Rattle.std.proofs.Common.{◌≡◌, ℕ, ℤ, suc, pos, negsuc, ◌^◌, ◌<◌, Bool, true, false, ◌==◌, if◌then◌else◌, List, [], ◌∷◌, ◌++◌}
use Rattle.std.proofs.Common.{length, Option, Some, None, codes, refl, arith, append_assoc, FitsSigned, map}
use Rattle.std.proofs.lemmas.Bool.{ne_eqb}
use Rattle.std.proofs.lemmas.Fmt.{decimal_is_IsNumeral_wide}
use Rattle.std.specs.Fmt.{signed_decimal, decimal}
use Rattle.std.specs.Int.{w128}
use Rattle.std.specs.List.{flat_map}
use Rattle.rx_fields.specs.Digits.{digits_text}
use Rattle.rx_fields.specs.Numbered.{LotParts}
use Rattle.rx_fields.specs.Clock.{stamp_text}
use Rattle.rx_fields.specs.declared.stamp.Stamp.{Stamp}
use Rattle.rx_print.proofs.JsonPieces.{AreItems, AreMembers, IsMember, IsText, array_is, braces_is, closes, closes_after, closes_last}
use Rattle.rx_print.proofs.JsonPieces.{closes_line, each_item_is, each_member_is, item_is, members_are, named_is}
use Rattle.rx_print.proofs.JsonPieces.{line_begins, line_ends, member_is, no_items_are, null_text_is, number_text_is, object_is}
use Rattle.rx_print.proofs.JsonPieces.{one_member_is, opens, text_at, text_is}
use Rattle.rx_print.specs.Dates.{dashed}
use Rattle.rx_print.specs.Escape.{escaped}
use Rattle.rx_print.specs.JsonData.{Value, Null, Number, Text}
use Rattle.rx_print.specs.declared.style.Style.TheVariants.{Json}
use Rattle.rx_report.specs.Cells.{authorization_cell, cents_cell, cents_of, codes_cell, days_of, family_cell, known_cell, others}
use Rattle.rx_report.specs.Cells.{person_cell, product_cell, quantity_of, reference_of, status_of}
use Rattle.rx_report.specs.LinesData.{batch_members, cents_data, claim_data, count_data, known_data, line_data, lines_data, lot_data}
use Rattle.rx_report.specs.LinesData.{stamp_data, text_data}
use Rattle.rx_report.specs.Texts.{batch_json, claim_json, comma_member, comma_object, json_member, json_object, lines_json, lot_json}
use Rattle.rx_report.specs.Texts.{lot_members, quoted, stamp_json, stamp_value}
use Rattle.rx_report.specs.declared.column.Column.{Column}
use Rattle.rx_report.specs.declared.column.Column.TheVariants as column
use Rattle.rx_report.specs.declared.line.Line.{Line}
use Rattle.rx_settle.specs.Providers.{named}

-- ---- cells: null where they are blank

abbrev number_cell : List ℕ → List ℕ
number_cell text = if length text == 0 then codes "null" else text

some_digit : (n : ℕ) → n < 10 ^ 64 → (length (decimal n) == 0) ≡ false
some_digit n h = let some = (decimal_is_IsNumeral_wide n h).0.0 in ne_eqb (length (decimal n)) 0 (λ e. omega arith)

not_blank : (z : ℤ) → FitsSigned w128 z → number_cell (signed_decimal z) ≡ signed_decimal z
not_blank (pos n) h = rw (some_digit n (let small = h.sfits in omega arith)) refl
not_blank (negsuc n) h = rw (ne_eqb (suc (length (decimal (suc n)))) 0 (λ e. omega arith)) refl

number_cell_is : (d : ℕ) (z : ℤ) → IsText d (number_cell (signed_decimal z)) (Number z)
number_cell_is d z = record {
  lexed = λ fits.
      (text_at d (number_cell (signed_decimal z)) (signed_decimal z) (Number z) (not_blank z fits) (number_text_is d z)).lexed fits;
  shallow = omega arith;
}

known_cell_is : (d : ℕ) (o : Option ℕ) → IsText d (number_cell (known_cell o)) (known_data o)
known_cell_is d None = null_text_is d
known_cell_is d (Some n) = number_cell_is d (pos n)

cents_cell_is : (d : ℕ) (o : Option ℤ) → IsText d (number_cell (cents_cell o)) (cents_data o)
cents_cell_is d None = null_text_is d
cents_cell_is d (Some z) = number_cell_is d z

abbrev text_cell : List ℕ → List ℕ
text_cell text = if length text == 0 then codes "null" else 34 ∷ (escaped Json text ++ 34 ∷ [])

text_cell_is : (d : ℕ) (text : List ℕ) → IsText d (text_cell text) (text_data text)
text_cell_is d text = at (length text == 0)
  where
    at : (blank : Bool) → IsText d (if blank then codes "null" else 34 ∷ (escaped Json text ++ 34 ∷ []))
        (if blank then Null else Text text)
    at true = null_text_is d
    at false = text_is d text

-- ---- a line

abbrev column_data : Line → Column → List ℕ × Value
column_data l column.Place = (codes "record", count_data l.place)
column_data l column.Nth = (codes "nth", count_data l.nth)
column_data l column.Status = (codes "answer", Text (status_of l.answer ∷ []))
column_data l column.Codes = (codes "codes", text_data (codes_cell l.answer))
column_data l column.Provider = (codes "provider", text_data (named l.provider))
column_data l column.Prescription = (codes "prescription", known_data (reference_of l.answer))
column_data l column.Date = (codes "date", text_data l.date)
column_data l column.Family = (codes "family", text_data (family_cell l.member))
column_data l column.Person = (codes "person", text_data (person_cell l.member))
column_data l column.Allowed = (codes "allowed", cents_data (cents_of column.Allowed l.answer))
column_data l column.Deductible = (codes "deductible", cents_data (cents_of column.Deductible l.answer))
column_data l column.Copay = (codes "copay", cents_data (cents_of column.Copay l.answer))
column_data l column.Coinsurance = (codes "coinsurance", cents_data (cents_of column.Coinsurance l.answer))
column_data l column.Member = (codes "member_pays", cents_data (cents_of column.Member l.answer))
column_data l column.Plan = (codes "plan_pays", cents_data (cents_of column.Plan l.answer))
column_data l column.Authorization = (codes "authorization", text_data (authorization_cell l.answer))
column_data l column.Product = (codes "product", text_data (product_cell l.product))
column_data l column.Quantity = (codes "quantity", known_data (quantity_of l.dispensed))
column_data l column.Days = (codes "days", known_data (days_of l.dispensed))

column_is : (d : ℕ) (l : Line) (c : Column) → IsMember d (json_member l c) (column_data l c)
column_is d l column.Place = member_is d (codes "record") _ _ refl (number_cell_is d (pos l.place))
column_is d l column.Nth = member_is d (codes "nth") _ _ refl (number_cell_is d (pos l.nth))
column_is d l column.Status = member_is d (codes "answer") _ _ refl (text_is d (status_of l.answer ∷ []))
column_is d l column.Codes = member_is d (codes "codes") _ _ refl (text_cell_is d (codes_cell l.answer))
column_is d l column.Provider = member_is d (codes "provider") _ _ refl (text_cell_is d (named l.provider))
column_is d l column.Prescription = member_is d (codes "prescription") _ _ refl (known_cell_is d (reference_of l.answer))
column_is d l column.Date = member_is d (codes "date") _ _ refl (text_cell_is d l.date)
column_is d l column.Family = member_is d (codes "family") _ _ refl (text_cell_is d (family_cell l.member))
column_is d l column.Person = member_is d (codes "person") _ _ refl (text_cell_is d (person_cell l.member))
column_is d l column.Allowed = member_is d (codes "allowed") _ _ refl (cents_cell_is d (cents_of column.Allowed l.answer))
column_is d l column.Deductible = member_is d (codes "deductible") _ _ refl (cents_cell_is d (cents_of column.Deductible l.answer))
column_is d l column.Copay = member_is d (codes "copay") _ _ refl (cents_cell_is d (cents_of column.Copay l.answer))
column_is d l column.Coinsurance = member_is d (codes "coinsurance") _ _ refl (cents_cell_is d (cents_of column.Coinsurance l.answer))
column_is d l column.Member = member_is d (codes "member_pays") _ _ refl (cents_cell_is d (cents_of column.Member l.answer))
column_is d l column.Plan = member_is d (codes "plan_pays") _ _ refl (cents_cell_is d (cents_of column.Plan l.answer))
column_is d l column.Authorization = member_is d (codes "authorization") _ _ refl (text_cell_is d (authorization_cell l.answer))
column_is d l column.Product = member_is d (codes "product") _ _ refl (text_cell_is d (product_cell l.product))
column_is d l column.Quantity = member_is d (codes "quantity") _ _ refl (known_cell_is d (quantity_of l.dispensed))
column_is d l column.Days = member_is d (codes "days") _ _ refl (known_cell_is d (days_of l.dispensed))

others_are : (d : ℕ) (l : Line) → AreMembers d (flat_map (comma_member l) others) (map (column_data l) others)
others_are d l =
    each_member_is d (comma_member l) (column_data l) (λ c. one_member_is d (json_member l c) (column_data l c) (column_is d l c)) others

line_is : (l : Line) → IsText 1 (json_object l) (line_data l)
unfolding json_object
line_is l =
    object_is 0 (123 ∷ json_member l column.Place) (flat_map (comma_member l) others ++ 125 ∷ []) (column_data l column.Place)
    (map (column_data l) others) (opens 0 _ _ (column_is 0 l column.Place)) (closes_after 0 _ _ _ [] (others_are 0 l) (closes 0))

-- ---- a line with its batch

abbrev lot_object : LotParts → List ℕ
lot_object lot = 123 ∷ (lot_members lot ++ 125 ∷ [])

lot_is : (d : ℕ) (lot : LotParts) → IsText (suc d) (lot_object lot) (lot_data lot)
lot_is d lot =
    braces_is d (lot_members lot) (codes "number", Text (digits_text 7 lot.number)) ((codes "created", Text (dashed lot.created)) ∷ [])
    (members_are d (44 ∷ (codes "\"number\":" ++ quoted (digits_text 7 lot.number))) _ (_ ∷ []) _
    (named_is d (codes "number") _ _ refl (text_is d (digits_text 7 lot.number)))
    (named_is d (codes "created") _ _ refl (text_is d (dashed lot.created))))

lot_member_is : (d : ℕ) (lot : LotParts) → AreMembers (suc d) (44 ∷ lot_json lot) ((codes "lot", lot_data lot) ∷ [])
unfolding lot_json
lot_member_is d lot = named_is (suc d) (codes "lot") (lot_object lot) (lot_data lot) refl (lot_is d lot)

stamp_is : (d : ℕ) (stamp : Option Stamp) → IsText d (stamp_value stamp) (stamp_data stamp)
stamp_is d None = null_text_is d
stamp_is d (Some s) = text_is d (stamp_text s)

pub batch_members_are : (d : ℕ) (lot : LotParts) (stamp : Option Stamp)
    → AreMembers (suc d) (44 ∷ batch_json lot stamp) (batch_members lot stamp)
unfolding batch_json
batch_members_are d lot stamp =
    members_are (suc d) (44 ∷ lot_json lot) (44 ∷ stamp_json stamp) (_ ∷ []) _ (lot_member_is d lot)
    (named_is (suc d) (codes "stamp") (stamp_value stamp) (stamp_data stamp) refl (stamp_is (suc d) stamp))

pub claim_is : (lot : LotParts) (stamp : Option Stamp) (l : Line) → IsText 2 (claim_json lot stamp l) (claim_data lot stamp l)
unfolding claim_json
claim_is lot stamp l =
    object_is 1 (123 ∷ json_member l column.Place)
    (flat_map (comma_member l) others ++ ((44 ∷ batch_json lot stamp) ++ codes "}\n"))
    (column_data l column.Place) (map (column_data l) others ++ batch_members lot stamp)
    (opens 1 _ _ (column_is 1 l column.Place))
    (closes_after 1 _ _ _ _ (others_are 1 l) (closes_last 1 _ _ _ (batch_members_are 0 lot stamp) (closes_line 1)))

-- ---- all lines

objects_are : (more : List Line) → AreItems 1 (flat_map comma_object more) (map line_data more)
objects_are more =
    each_item_is 1 comma_object line_data
    (λ l. item_is 1 (10 ∷ json_object l) (line_data l) (line_begins 1 (json_object l) (line_data l) (line_is l))) more

-- the end of the line stands after the array
end_apart : (s t : List ℕ) → 91 ∷ (s ++ (t ++ 93 ∷ 10 ∷ [])) ≡ (91 ∷ (s ++ (t ++ 93 ∷ []))) ++ 10 ∷ []
end_apart s t = simp append_assoc refl

pub lines_are : (lines : List Line) → IsText 2 (lines_json lines) (lines_data lines)
lines_are [] = line_ends 2 (91 ∷ 93 ∷ []) (lines_data []) (no_items_are 1)
lines_are (l ∷ more) =
    text_at 2 (lines_json (l ∷ more)) _ (lines_data (l ∷ more)) (end_apart (json_object l) (flat_map comma_object more))
    (line_ends 2 _ _ (array_is 1 (json_object l) (flat_map comma_object more) (line_data l) (map line_data more) (line_is l)
    (objects_are more)))
