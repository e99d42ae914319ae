-- Text: a report as a table of tabs, as JSON, and as lines of JSON.
use Rattle.std.specs.Prelude.{ℕ, ◌==◌, if◌then◌else◌, List, [], ◌∷◌, ◌++◌, Option, Some, None, codes, length}
use Rattle.std.specs.List.{flat_map}
use Rattle.rx_fields.specs.Clock.{stamp_text}
use Rattle.rx_fields.specs.Digits.{digits_text}
use Rattle.rx_fields.specs.Numbered.{LotParts}
use Rattle.rx_fields.specs.declared.stamp.Stamp.{Stamp}
use Rattle.rx_print.specs.Dates.{dashed}
use Rattle.rx_print.specs.Escape.{escaped}
use Rattle.rx_print.specs.declared.style.Style.TheVariants.{Json}
use Rattle.rx_report.specs.declared.column.Column.{Column}
use Rattle.rx_report.specs.declared.column.Column.TheVariants as column
use Rattle.rx_report.specs.declared.line.Line.{Line}
use Rattle.rx_report.specs.Cells.{cell, is_number, name_of, others}

-- ---- a table of tabs: a heading, and a row for each line, with the batch's number, its day of creation and the stamp of its
-- run last

-- three more cells, each after a tab
abbrev pub three_cells : List ℕ → List ℕ → List ℕ → List ℕ
three_cells first second third = 9 ∷ (first ++ (9 ∷ (second ++ (9 ∷ third))))

-- the stamp in its twelve digits, where it is known
abbrev pub stamp_cell : Option Stamp → List ℕ
stamp_cell None = []
stamp_cell (Some s) = stamp_text s

abbrev pub batch_names : List ℕ
batch_names = three_cells (codes "lot") (codes "created") (codes "stamp")

abbrev pub batch_cells : LotParts → Option Stamp → List ℕ
batch_cells lot stamp = three_cells (digits_text 7 lot.number) (dashed lot.created) (stamp_cell stamp)

abbrev pub tab_name : Column → List ℕ
tab_name c = 9 ∷ name_of c

abbrev pub heading : List ℕ
heading = name_of column.Place ++ (flat_map tab_name others ++ (batch_names ++ 10 ∷ []))

abbrev pub tab_cell : Line → Column → List ℕ
tab_cell l c = 9 ∷ cell c l

abbrev pub row : LotParts → Option Stamp → Line → List ℕ
row lot stamp l = cell column.Place l ++ (flat_map (tab_cell l) others ++ (batch_cells lot stamp ++ 10 ∷ []))

abbrev pub tsv_text : LotParts → Option Stamp → List Line → List ℕ
tsv_text lot stamp lines = heading ++ flat_map (row lot stamp) lines

-- ---- JSON: an array of objects, each on its line

-- bytes as a string
abbrev pub quoted : List ℕ → List ℕ
quoted bytes = 34 ∷ (escaped Json bytes ++ 34 ∷ [])

-- null where the cell is blank, a number as it is, else a string
abbrev pub json_value : Column → List ℕ → List ℕ
json_value c text =
    if length text == 0 then codes "null"
    else (if is_number c then text else quoted text)

abbrev pub json_member : Line → Column → List ℕ
json_member l c = 34 ∷ (name_of c ++ (34 ∷ 58 ∷ json_value c (cell c l)))

abbrev pub comma_member : Line → Column → List ℕ
comma_member l c = 44 ∷ json_member l c

unfoldable pub json_object : Line → List ℕ
json_object l = 123 ∷ (json_member l column.Place ++ (flat_map (comma_member l) others ++ 125 ∷ []))

abbrev pub comma_object : Line → List ℕ
comma_object l = 44 ∷ 10 ∷ json_object l

abbrev pub lines_json : List Line → List ℕ
lines_json [] = codes "[]\n"
lines_json (l ∷ more) = 91 ∷ (json_object l ++ (flat_map comma_object more ++ codes "]\n"))

-- ---- JSON: an object a line, each with its batch

-- the batch's number, and the day on which it was created
abbrev pub lot_members : LotParts → List ℕ
lot_members lot =
    codes "\"number\":" ++ (quoted (digits_text 7 lot.number) ++ (codes ",\"created\":" ++ quoted (dashed lot.created)))

unfoldable pub lot_json : LotParts → List ℕ
lot_json lot = codes "\"lot\":{" ++ (lot_members lot ++ codes "}")

-- the stamp of its run, null where it isn't known
abbrev pub stamp_value : Option Stamp → List ℕ
stamp_value None = codes "null"
stamp_value (Some s) = quoted (stamp_text s)

abbrev pub stamp_json : Option Stamp → List ℕ
stamp_json stamp = codes "\"stamp\":" ++ stamp_value stamp

-- both
unfoldable pub batch_json : LotParts → Option Stamp → List ℕ
batch_json lot stamp = lot_json lot ++ (44 ∷ stamp_json stamp)

unfoldable pub claim_json : LotParts → Option Stamp → Line → List ℕ
claim_json lot stamp l =
    123 ∷ (json_member l column.Place ++ (flat_map (comma_member l) others ++ (44 ∷ (batch_json lot stamp ++ codes "}\n"))))

abbrev pub claims_json : LotParts → Option Stamp → List Line → List ℕ
claims_json lot stamp lines = flat_map (claim_json lot stamp) lines
