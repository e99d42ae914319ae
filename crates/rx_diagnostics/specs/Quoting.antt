-- Meaning: bytes in quotes, on one line.
use Rattle.std.specs.Prelude.{ℕ, nat_lt, if◌then◌else◌, List, [], ◌∷◌, ◌++◌, codes, length, take}
use Rattle.std.specs.List.{flat_map}
use Rattle.rx_print.specs.Hexadecimal.{bracketed}
use Rattle.rx_text.specs.Bytes.{is_printable}
use Rattle.rx_diagnostics.specs.declared.quoting.TheConstants.{LONGEST}

-- printable ASCII stands for itself, and any other byte is two hexadecimal digits in angle brackets
abbrev pub byte_text : ℕ → List ℕ
byte_text b = if is_printable b then b ∷ [] else bracketed b

abbrev pub bytes_text : List ℕ → List ℕ
bytes_text bytes = flat_map byte_text bytes

-- two dots after the front of a long quotation
abbrev pub cut_mark : List ℕ → List ℕ
cut_mark bytes = if nat_lt LONGEST (length bytes) then codes ".." else []

-- the first 60 bytes, or all
abbrev pub shown_text : List ℕ → List ℕ
shown_text bytes = bytes_text (take LONGEST bytes) ++ cut_mark bytes

-- the same in quotes
abbrev pub quoted_text : List ℕ → List ℕ
quoted_text bytes = codes "\"" ++ (shown_text bytes ++ codes "\"")
