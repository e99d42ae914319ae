-- Meaning: a table of tabs read back: a line feed ends each row, and a tab parts two cells.
use Rattle.std.specs.Prelude.{◌≡◌, ℕ, ◌&&◌, ◌==◌, nat_le, Bool, true, List, [], ◌∷◌, ◌++◌, Option, codes, map}
use Rattle.std.specs.List.{All, list_all, slice_split}
use Rattle.rx_fields.specs.Digits.{digits_text}
use Rattle.rx_fields.specs.Numbered.{LotParts}
use Rattle.rx_fields.specs.declared.stamp.Stamp.{Stamp}
use Rattle.rx_print.specs.Dates.{dashed}
use Rattle.rx_report.specs.declared.column.Column.{Column}
use Rattle.rx_report.specs.declared.column.Column.TheVariants as column
use Rattle.rx_report.specs.declared.line.Line.{Line}
use Rattle.rx_report.specs.Cells.{cell, family_cell, name_of, others, person_cell}
use Rattle.rx_report.specs.Texts.{stamp_cell}

-- all but the last
abbrev pub but_last : List (List ℕ) → List (List ℕ)
but_last [] = []
but_last (r ∷ []) = []
but_last (r ∷ s ∷ rs) = r ∷ but_last (s ∷ rs)

-- the rows of a text, without their line feeds; what stands after the last line feed is no row
abbrev pub rows_in : List ℕ → List (List ℕ)
rows_in text = but_last (slice_split (λ b. b == 10) text)

-- the cells of a row
abbrev pub cells_in : List ℕ → List (List ℕ)
cells_in row = slice_split (λ b. b == 9) row

-- the cells of each row of a text
abbrev pub table_in : List ℕ → List (List (List ℕ))
table_in text = map cells_in (rows_in text)

-- the columns in order
abbrev pub columns : List Column
columns = column.Place ∷ others

-- their names, and those of the batch's columns
abbrev pub names : List (List ℕ)
names = map name_of columns ++ codes "lot" ∷ codes "created" ∷ codes "stamp" ∷ []

-- what a line has in each column, with its batch's number, day of creation and stamp
abbrev pub cells_of : LotParts → Option Stamp → Line → List (List ℕ)
cells_of lot stamp l = map (λ c. cell c l) columns ++ digits_text 7 lot.number ∷ dashed lot.created ∷ stamp_cell stamp ∷ []

-- a heading and the lines: each row has as many cells as there are names
abbrev pub table_of : LotParts → Option Stamp → List Line → List (List (List ℕ))
table_of lot stamp lines = names ∷ map (cells_of lot stamp) lines

-- no byte is a control byte
abbrev pub is_plain : List ℕ → Bool
is_plain text = list_all (nat_le 32) text

-- date and member of a line hold no control byte
abbrev pub is_plain_line : Line → Bool
is_plain_line l = is_plain l.date && (is_plain (family_cell l.member) && is_plain (person_cell l.member))

-- of such lines the text reads back as the table
abbrev pub ReadsBack : LotParts → Option Stamp → List Line → List ℕ → Type 0
ReadsBack lot stamp lines text = All (λ l. is_plain_line l ≡ true) lines → table_in text ≡ table_of lot stamp lines
