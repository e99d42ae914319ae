-- Meaning: the lines of a report as a value of JSON: an array with an object for each. Amounts are in cents.
use Rattle.std.specs.Prelude.{ℕ, ℤ, pos, ◌==◌, if◌then◌else◌, List, [], ◌∷◌, ◌++◌, map, length, Option, Some, None, codes}
use Rattle.rx_fields.specs.Clock.{stamp_text}
use Rattle.rx_fields.specs.Digits.{digits_text}
use Rattle.rx_fields.specs.Numbered.{LotParts}
use Rattle.rx_fields.specs.declared.stamp.Stamp.{Stamp}
use Rattle.rx_print.specs.Dates.{dashed}
use Rattle.rx_print.specs.JsonData.{Value, Null, Number, Text, array, object}
use Rattle.rx_report.specs.Cells.{authorization_cell, cents_of, codes_cell, days_of, family_cell, person_cell, product_cell}
use Rattle.rx_report.specs.Cells.{quantity_of, reference_of, status_of}
use Rattle.rx_report.specs.declared.column.Column.TheVariants as column
use Rattle.rx_report.specs.declared.line.Line.{Line}
use Rattle.rx_settle.specs.Providers.{named}

abbrev pub count_data : ℕ → Value
count_data n = Number (pos n)

-- what isn't known is null
abbrev pub text_data : List ℕ → Value
text_data text = if length text == 0 then Null else Text text

abbrev pub known_data : Option ℕ → Value
known_data None = Null
known_data (Some n) = count_data n

abbrev pub cents_data : Option ℤ → Value
cents_data None = Null
cents_data (Some cents) = Number cents

abbrev pub line_members : Line → List (List ℕ × Value)
line_members l =
    (codes "record", count_data l.place)
    ∷ (codes "nth", count_data l.nth)
    ∷ (codes "answer", Text (status_of l.answer ∷ []))
    ∷ (codes "codes", text_data (codes_cell l.answer))
    ∷ (codes "provider", text_data (named l.provider))
    ∷ (codes "prescription", known_data (reference_of l.answer))
    ∷ (codes "date", text_data l.date)
    ∷ (codes "family", text_data (family_cell l.member))
    ∷ (codes "person", text_data (person_cell l.member))
    ∷ (codes "allowed", cents_data (cents_of column.Allowed l.answer))
    ∷ (codes "deductible", cents_data (cents_of column.Deductible l.answer))
    ∷ (codes "copay", cents_data (cents_of column.Copay l.answer))
    ∷ (codes "coinsurance", cents_data (cents_of column.Coinsurance l.answer))
    ∷ (codes "member_pays", cents_data (cents_of column.Member l.answer))
    ∷ (codes "plan_pays", cents_data (cents_of column.Plan l.answer))
    ∷ (codes "authorization", text_data (authorization_cell l.answer))
    ∷ (codes "product", text_data (product_cell l.product))
    ∷ (codes "quantity", known_data (quantity_of l.dispensed))
    ∷ (codes "days", known_data (days_of l.dispensed))
    ∷ []

abbrev pub line_data : Line → Value
line_data l = object (line_members l)

abbrev pub lines_data : List Line → Value
lines_data lines = array (map line_data lines)

-- the batch's number, and the day on which it was created
abbrev pub lot_data : LotParts → Value
lot_data lot = object ((codes "number", Text (digits_text 7 lot.number)) ∷ (codes "created", Text (dashed lot.created)) ∷ [])

-- the stamp of its run, in twelve digits
abbrev pub stamp_data : Option Stamp → Value
stamp_data None = Null
stamp_data (Some s) = Text (stamp_text s)

abbrev pub batch_members : LotParts → Option Stamp → List (List ℕ × Value)
batch_members lot stamp = (codes "lot", lot_data lot) ∷ (codes "stamp", stamp_data stamp) ∷ []

-- a line with its batch
abbrev pub claim_data : LotParts → Option Stamp → Line → Value
claim_data lot stamp l = object (line_members l ++ batch_members lot stamp)
