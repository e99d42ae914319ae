-- Meaning: how the line of a fault begins: with the name of its file and its place there.
use Rattle.std.specs.Prelude.{◌≡◌, ℕ, List, [], ◌∷◌, codes, ◌++◌, string_bytes, zero, suc}
use Rattle.std.specs.Fmt.{decimal}
use Rattle.rx_diagnostics.specs.declared.place.Place.{Place}
use Rattle.rx_diagnostics.specs.declared.place.Place.TheVariants as place
use Rattle.rx_diagnostics.specs.declared.words.Words.{Words}

-- the header is named, a detail and the trailer have a number
abbrev pub record_name : ℕ → List ℕ
record_name zero = codes "header"
record_name (suc n) = codes "record " ++ decimal (suc n)

-- FILE: , FILE:LINE: , FILE:LINE:COLUMN: , FILE: byte B: , FILE: header, byte B: or FILE: record R, byte B:
abbrev pub place_text : List ℕ → Place → List ℕ
place_text file place.Whole = file ++ codes ": "
place_text file (place.Line line) = file ++ (codes ":" ++ (decimal line ++ codes ": "))
place_text file (place.Column line column) =
    file ++ (codes ":" ++ (decimal line ++ (codes ":" ++ (decimal column ++ codes ": "))))
place_text file (place.Byte byte) = file ++ (codes ": byte " ++ (decimal byte ++ codes ": "))
place_text file (place.Record number byte) =
    file ++ (codes ": " ++ (record_name number ++ (codes ", byte " ++ (decimal byte ++ codes ": "))))

-- the command that mends the file, in parentheses; nothing if there is none
abbrev pub mend_text : List ℕ → List ℕ → List ℕ
mend_text file [] = []
mend_text file (b ∷ mend) = codes " (" ++ ((b ∷ mend) ++ (codes " " ++ (file ++ codes ")")))

-- the place, what is said of the fault, and how it is mended
abbrev pub line_text : List ℕ → Words → List ℕ
line_text file words = place_text file words.place ++ (string_bytes words.text ++ mend_text file words.mend.now)

-- the line begins with the place
abbrev pub BeginsAt : List ℕ → Place → List ℕ → Type 0
BeginsAt file at line = (rest : List ℕ) × (line ≡ place_text file at ++ rest)
