-- Meaning: the line of a plan sheet in which a key stands, by how its text is laid out.
use Rattle.std.specs.Prelude.{ℕ, ◌+◌, ◌-◌, Bool, ◌||◌, ◌==◌, if◌then◌else◌, List, [], ◌∷◌, ◌++◌, codes, drop, length, take}
use Rattle.std.specs.Prelude.{Option, Some, None}
use Rattle.std.specs.Char.{is_ascii_whitespace}
use Rattle.std.specs.List.{flat_map, position_from, prefix_len, suffix_len}
use Rattle.std.specs.Str.{bytes_eq}
use Rattle.rx_text.specs.Bytes.{cut}
use Rattle.rx_diagnostics.specs.Looks.{begins}
use Rattle.rx_diagnostics.specs.Parts.{up_to}
use Rattle.rx_diagnostics.specs.Places.{line_place}
use Rattle.rx_diagnostics.specs.declared.place.Place.{Place}
use Rattle.rx_diagnostics.specs.declared.sheet_lines.At.{At}
use Rattle.rx_diagnostics.specs.declared.sheet_lines.At.TheVariants as at

-- ---- what a line names

-- without the blanks in front, and without those at the end
abbrev pub front_trimmed : List ℕ → List ℕ
front_trimmed text = drop (prefix_len is_ascii_whitespace text) text

abbrev pub end_trimmed : List ℕ → List ℕ
end_trimmed text = take (length text - suffix_len is_ascii_whitespace text) text

unfoldable pub trimmed : List ℕ → List ℕ
trimmed text = end_trimmed (front_trimmed text)

-- a line that begins with a bracket is a heading, as [drugs.00001000101]
abbrev pub is_heading : List ℕ → Bool
is_heading line = begins (trimmed line) (codes "[")

-- what stands in its brackets
abbrev pub heading_of : List ℕ → List ℕ
heading_of line = trimmed (up_to 93 (drop 1 (trimmed line)))

-- what stands before the first equals sign of another line
abbrev pub key_of : List ℕ → List ℕ
key_of line = trimmed (up_to 61 line)

-- a byte of a name, unless it is one of the quotes that may stand round it
abbrev pub name_byte : ℕ → List ℕ
name_byte b = if b == 34 || b == 39 then [] else b ∷ []

abbrev pub unquoted : List ℕ → List ℕ
unquoted names = flat_map name_byte names

-- a heading and a dot; nothing above the first heading
abbrev pub front_of : List ℕ → List ℕ
front_of heading = if length heading == 0 then [] else unquoted heading ++ codes "."

-- what a line names below a heading: a heading itself; another line its key, as drugs.00001000101.price
abbrev pub path_at : List ℕ → List ℕ → List ℕ
path_at above line = if is_heading line then unquoted (heading_of line) else front_of above ++ unquoted (key_of line)

-- the heading below which the next line stands
abbrev pub heading_after : List ℕ → List ℕ → List ℕ
heading_after above line = if is_heading line then heading_of line else above

-- what each line names, one after another
abbrev pub paths_in : List ℕ → List (List ℕ) → List (List ℕ)
paths_in above [] = []
paths_in above (line ∷ lines) = path_at above line ∷ paths_in (heading_after above line) lines

-- ---- the line of a key

-- the number of the first line that names this path, from 1
abbrev pub line_naming : List ℕ → List (List ℕ) → Option ℕ
line_naming path lines = position_from (bytes_eq path) 1 (paths_in [] lines)

-- names with dots between, the last one first: price, 00001000101, drugs
abbrev pub dotted : List (List ℕ) → List ℕ
dotted [] = []
dotted (name ∷ []) = name
dotted (name ∷ (holder ∷ others)) = dotted (holder ∷ others) ++ (codes "." ++ name)

abbrev pub or_of : Option ℕ → Option ℕ → Option ℕ
or_of (Some line) other = Some line
or_of None other = other

-- the line that names these, or else that of what holds the last of them
abbrev pub line_of_names : List (List ℕ) → List (List ℕ) → Option ℕ
line_of_names lines [] = None
line_of_names lines (name ∷ []) = line_naming name lines
line_of_names lines (name ∷ (holder ∷ others)) =
    or_of (line_naming (dotted (name ∷ (holder ∷ others))) lines) (line_of_names lines (holder ∷ others))

-- the same in a text
unfoldable pub line_of_key : List ℕ → List (List ℕ) → Option ℕ
line_of_key text names = line_of_names (cut 10 text) names

-- that line, or the whole sheet where none names it
abbrev pub place_of_key : List ℕ → List (List ℕ) → Place
place_of_key text names = line_place (line_of_key text names)

-- the names that lead to a key, the last one first
abbrev pub names_of : At → List (List ℕ)
names_of at.Nowhere = []
names_of (at.Key key) = key.now ∷ []
names_of (at.Entry table name) = name.now ∷ table.now ∷ []
names_of (at.Part table name key) = key.now ∷ name.now ∷ table.now ∷ []
